use Rattle.std.proofs.Common.{length}
use Rattle.response_program.proofs.written.+open_written.Given as goal

abbrev pub decreases-open_written : goal.decreases-open_written
decreases-open_written g l = length l.pairs.now
