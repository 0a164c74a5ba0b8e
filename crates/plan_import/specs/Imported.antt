-- What an import of a base tells.
use Rattle.std.specs.Prelude.{◌≡◌, ◌≢◌, ℕ, ◌≤◌, List, true, Option, Some, Result, Ok, Err, IfOk, IfErr}
use Rattle.plan_schema.specs.Contents.{Contents}
use Rattle.plan_schema.specs.Base.{is_base}
use Rattle.plan_schema.specs.Outside.{Rose}
use Rattle.plan_import.specs.declared.ImportFault.{ImportFault}
use Rattle.plan_import.specs.declared.ImportFault.TheVariants.{Read, Memory}
use Rattle.plan_import.specs.BaseFile.{base_of}

-- an import read a base from a source: with Ok its contents, with another fault than that of the source or of memory the first thing
-- that is wrong with the bytes, where the source tells them; what it gives is a base; the count of faults rose where the source
-- failed, and the source's label stays. The first three arguments are the source's meanings.
pub record Imported {S : Type 0} (left : S → Option (List ℕ)) (faults : S → ℕ) (label : S → List ℕ) (old new : S) (result : Result Contents ImportFault) : Type 0 where
  pub ok : (before : List ℕ) → left old ≡ Some before → IfOk result (λ contents. base_of before ≡ Ok contents)
  pub err : (before : List ℕ) → left old ≡ Some before → IfErr result (λ fault. fault ≢ Read → fault ≢ Memory → base_of before ≡ Err fault)
  pub base : IfOk result (λ contents. is_base contents ≡ true)
  pub later : faults old ≤ faults new
  pub failed : result ≡ Err Read → Rose (faults old) (faults new)
  pub same : label new ≡ label old
