use Rattle.std.proofs.Common.{length}
use Rattle.desk_rounds.specs.PassLists.{JoinedSoFar}
use Rattle.desk_rounds.proofs.passes.join_all.Given as goal

abbrev pub invariant-joins : goal.invariant-joins
invariant-joins g l = JoinedSoFar l.office l.fn.pass l.pass l.fn.others.items l.left.items

abbrev pub decreases-joins : goal.decreases-joins
decreases-joins g l = length l.left.items
