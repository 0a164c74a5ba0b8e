use Rattle.std.proofs.Common.{length}
use Rattle.response_program.proofs.desks.+serve_desks.Given as goal

abbrev pub decreases-serve_desks : goal.decreases-serve_desks
decreases-serve_desks g l = length l.waiting.now.items
