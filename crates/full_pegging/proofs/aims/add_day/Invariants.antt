use Rattle.std.proofs.Common.{◌++◌, ℕ, List, map, take}
use Rattle.planning_rules.specs.Pegs.{Peg as PlanPeg}
use Rattle.walk_rules.specs.Cells.{records}
use Rattle.walk_rules.specs.Walks.{names_of}
use Rattle.pegging.specs.Pegs.{shown}
use Rattle.full_pegging.specs.Ends.{AreTargets}
use Rattle.full_pegging.proofs.aims.add_day.Given as goal

abbrev pub invariant-loop-peg : goal.invariant-loop-peg
invariant-loop-peg l = (before : List (ℕ × PlanPeg)) → AreTargets (records l.walk.job.cells) (names_of l.walk.parts) l.part before l.initial.aims.targets.items l.initial.aims.quantities.items
    → AreTargets (records l.walk.job.cells) (names_of l.walk.parts) l.part (before ++ map (λ peg. (l.at, shown peg)) (take l.peg-index l.pegs)) l.aims.targets.items l.aims.quantities.items
