use Rattle.plan_walk.specs.Nodes.{shown}
use Rattle.plan_walk.proofs.Beginning.{ReadySoFar}
use Rattle.plan_walk.proofs.graph.ready_places.Given as goal

abbrev pub invariant-loop-place : goal.invariant-loop-place
invariant-loop-place l = ReadySoFar l.nodes (shown l.known) l.place l.front.items
