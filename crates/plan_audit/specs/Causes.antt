-- Why an output isn't read.
use Rattle.std.specs.Prelude.{◌≡◌, ℕ, ◌≤◌, List, Result, Err}
use Rattle.plan_schema.specs.Outside.{Rose}
use Rattle.plan_audit.specs.declared.ahead.ReplyFault.{ReplyFault}
use Rattle.plan_audit.specs.declared.ahead.ReplyFault.TheVariants.{Read}

-- a source's count of faults doesn't fall, and rose where it is said to have failed; its label stays. The first two arguments are the
-- source's meanings.
pub record ReplyCause {S T : Type 0} (faults : S → ℕ) (label : S → List ℕ) (old new : S) (result : Result T ReplyFault) : Type 0 where
  pub later : faults old ≤ faults new
  pub failed : result ≡ Err Read → Rose (faults old) (faults new)
  pub same : label new ≡ label old
