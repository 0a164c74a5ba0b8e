use Rattle.std.proofs.Common.{◌≡◌, ◌+◌, ℕ, List, length, drop}
use Rattle.plan_audit.specs.Verdicts.{first_lost}
use Rattle.plan_audit.specs.Audits.{AreMarks}
use Rattle.plan_audit.proofs.lost.judged_by.Given as goal

abbrev pub invariant-loop-entry : goal.invariant-loop-entry
invariant-loop-entry l =
    (l.place ≡ l.entry-index)
    × ((points : List ℕ) → AreMarks l.marks points (length l.entries) → first_lost points 1 l.entries ≡ first_lost points (l.entry-index + 1) (drop l.entry-index l.entries))
