-- Reading all that a source has left.
use Rattle.std.specs.Prelude.{◌≡◌, ℕ, ◌+◌, ◌≤◌, ◌<◌, List, [], length, drop, Option, Some, None, Result, Err, IfOk, IfErr}
use Rattle.plan_schema.specs.Outside.{Rose, LeavesEnd}
use Rattle.byte_lines.specs.declared.reading.ReadAllFault.{ReadAllFault}
use Rattle.byte_lines.specs.declared.reading.ReadAllFault.TheVariants.{Failed, Large, Memory}

-- some first bytes of what was left were read, at most so many
pub record ReadFront (before : List ℕ) (after : Option (List ℕ)) (most : ℕ) : Type 0 where
  pub count : ℕ
  pub within : count ≤ length before
  pub few : count ≤ most
  pub rest : after ≡ Some (drop count before)

-- what a reader that stopped has left: a fault of the source leaves some end, and else at most so many bytes were read
abbrev pub StoppedWith : ReadAllFault → List ℕ → Option (List ℕ) → ℕ → Type 0
StoppedWith Failed before after most = LeavesEnd (Some before) after
StoppedWith Large before after most = ReadFront before after most
StoppedWith Memory before after most = ReadFront before after most

-- all that was left was read, and nothing is left
pub record ReadWhole (before : List ℕ) (after : Option (List ℕ)) (bytes : List ℕ) : Type 0 where
  pub same : bytes ≡ before
  pub rest : after ≡ Some []

-- a reader read all the bytes of a source, where they are at most so many: with Ok all that was left, where the source tells;
-- with want of memory or Large a front of it, of at most one byte more; Large only where more was left. The count of faults rose where the
-- source failed; the source's label stays. The first three arguments are the source's meanings: what is left, its count of
-- faults and its label.
pub record ReadAll {S : Type 0} (left : S → Option (List ℕ)) (faults : S → ℕ) (label : S → List ℕ) (most : ℕ) (old new : S) (result : Result (List ℕ) ReadAllFault) : Type 0 where
  pub fits : IfOk result (λ bytes. length bytes ≤ most)
  pub whole : (before : List ℕ) → left old ≡ Some before → IfOk result (ReadWhole before (left new))
  pub front : (before : List ℕ) → left old ≡ Some before → IfErr result (λ fault. StoppedWith fault before (left new) (most + 1))
  pub large : (before : List ℕ) → left old ≡ Some before → result ≡ Err Large → most < length before
  pub untold : left old ≡ None → left new ≡ None
  pub later : faults old ≤ faults new
  pub failed : result ≡ Err Failed → Rose (faults old) (faults new)
  pub same : label new ≡ label old
