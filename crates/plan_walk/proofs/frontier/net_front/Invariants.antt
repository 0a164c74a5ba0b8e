use Rattle.plan_walk.specs.Nodes.{node_names, names_at, shown}
use Rattle.plan_walk.specs.Places.{parts_of}
use Rattle.plan_walk.specs.Results.{told}
use Rattle.plan_walk.proofs.AtFronts.{NetSoFar}
use Rattle.plan_walk.proofs.frontier.net_front.Given as goal

abbrev pub invariant-loop-place : goal.invariant-loop-place
invariant-loop-place g l = NetSoFar l.job.cells (parts_of (node_names l.nodes) (shown l.known)) (names_at (node_names l.nodes) l.front) l.place-index (told l.results.items) l.initial.steps l.steps
