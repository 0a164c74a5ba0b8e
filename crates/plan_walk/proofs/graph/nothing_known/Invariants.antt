use Rattle.std.proofs.Common.{◌≡◌}
use Rattle.std.specs.Prelude.{replicate, None}
use Rattle.plan_walk.specs.Nodes.{shown}
use Rattle.plan_walk.proofs.graph.nothing_known.Given as goal

abbrev pub invariant-loop-place : goal.invariant-loop-place
invariant-loop-place l = shown l.known.items ≡ replicate l._place None
