use Rattle.std.proofs.Common.{length}
use Rattle.response_program.proofs.desks.+open_desks.Given as goal

abbrev pub decreases-open_desks : goal.decreases-open_desks
decreases-open_desks g l = length l.pairs.now
