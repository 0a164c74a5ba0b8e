use Rattle.std.proofs.Common.{◌≡◌, take}
use Rattle.plan_walk.specs.Making.{AreMade}
use Rattle.plan_walk.proofs.graph.nodes_of.Given as goal

abbrev pub invariant-loop-name : goal.invariant-loop-name
invariant-loop-name l = record {
  made : AreMade l.job.cells (take l.name-index l.names) l.nodes.items;
  placed : l.places ≡ take l.name-index l.names;
}
