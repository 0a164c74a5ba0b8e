use Rattle.std.proofs.Common.{ℕ}
use Rattle.plan_schema.specs.Contents.{Contents}
use Rattle.plan_audit.specs.Standing.{StandsAt}
use Rattle.plan_audit.proofs.standing.go_on.Given as goal

-- all entries up to the place were entered
abbrev pub invariant-loop-place : goal.invariant-loop-place
invariant-loop-place l = (base : Contents) (at : ℕ) → StandsAt base l.entries l.fn.book at → StandsAt base l.entries l.book l.place
