use Rattle.std.proofs.Common.{length}
use Rattle.response_program.proofs.desks.+close_desks.Given as goal

abbrev pub decreases-close_desks : goal.decreases-close_desks
decreases-close_desks g l = length l.waiting.now.items
