use Rattle.std.proofs.Common.{◌≡◌, drop}
use Rattle.plan_audit.specs.Same.{same_rows}
use Rattle.plan_audit.proofs.same.are_same_rows.Given as goal

-- what is left tells the same
abbrev pub invariant-loop-place : goal.invariant-loop-place
invariant-loop-place l = same_rows (drop l.place l.rows) (drop l.place l.others) ≡ same_rows l.rows l.others
