use Rattle.walk_rules.specs.Cells.{records}
use Rattle.walk_rules.specs.Walks.{names_of}
use Rattle.full_pegging.specs.Ends.{AreTargets, pegs_of}
use Rattle.full_pegging.proofs.aims.aims_of.Given as goal

abbrev pub invariant-loop-at : goal.invariant-loop-at
invariant-loop-at l = AreTargets (records l.walk.job.cells) (names_of l.walk.parts) l.part (pegs_of (records l.walk.job.cells) l.part l.at) l.aims.targets.items l.aims.quantities.items
