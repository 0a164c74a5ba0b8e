use Rattle.std.proofs.Common.{take, length}
use Rattle.plan_walk.specs.Making.{Linked}
use Rattle.plan_walk.proofs.graph.join.Given as goal

abbrev pub invariant-loop-up : goal.invariant-loop-up
invariant-loop-up l = Linked (length l.initial.nodes.items) (take l.up-index l.fn.node.ups.items) l.initial.nodes.items l.nodes.items
