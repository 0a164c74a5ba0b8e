use Rattle.std.proofs.Common.{length}
use Rattle.desk_rounds.proofs.round.+fn-serve_round-join_mut+arg2+fn-serve_round-join_mut+arg3+serve_round.Given as goal

abbrev pub decreases-join_mut+arg2 : goal.decreases-join_mut+arg2
decreases-join_mut+arg2 g l = length l.some_desks.now

abbrev pub decreases-join_mut+arg3 : goal.decreases-join_mut+arg3
decreases-join_mut+arg3 g l = length l.more_desks.now

abbrev pub decreases-serve_round : goal.decreases-serve_round
decreases-serve_round g l = length l.desks.now
