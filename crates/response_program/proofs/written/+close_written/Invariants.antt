use Rattle.std.proofs.Common.{length}
use Rattle.response_program.proofs.written.+close_written.Given as goal

abbrev pub decreases-close_written : goal.decreases-close_written
decreases-close_written g l = length l.pairs.now
