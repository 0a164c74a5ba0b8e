use Rattle.part_pegs.proofs.ParentLists.{AreListed}
use Rattle.part_pegs.proofs.releases.parent_releases.Given as goal

abbrev pub invariant-loop-key : goal.invariant-loop-key
invariant-loop-key g l = AreListed (g.P.Plans.plans l.plans) l.cell l.key-iterator l.releases.items
