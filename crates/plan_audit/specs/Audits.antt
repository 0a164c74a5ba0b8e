-- What an audit comes to.
use Rattle.std.specs.Prelude.{◌≡◌, ℕ, ◌+◌, ◌<◌, ◌==◌, Bool, false, List, slice_index_or, Result, Ok, Err}
use Rattle.std.specs.List.{list_any}
use Rattle.plan_audit.specs.declared.verdict.Verdict.{Verdict}
use Rattle.plan_audit.specs.declared.auditing.AuditFault.{AuditFault}
use Rattle.plan_audit.specs.declared.auditing.AuditFault.TheVariants as faults
use Rattle.plan_audit.specs.Verdicts.{Finding, Judges, TooLong}

-- of so many entries those are marked whose numbers, from 1, are among these points
abbrev pub AreMarks : List Bool → List ℕ → ℕ → Type 0
AreMarks marks points count = (k : ℕ) → k < count → slice_index_or marks k false ≡ list_any (λ point. point == k + 1) points

-- the verdict, or that the input of a session is too long; no claim is made where a source failed or there was no memory
abbrev pub ComesTo : Finding → Result Verdict AuditFault → Type 0
ComesTo finding (Ok verdict) = finding ≡ Judges verdict
ComesTo finding (Err (faults.Limit session)) = finding ≡ TooLong session
ComesTo finding (Err fault) = Unit {0}
