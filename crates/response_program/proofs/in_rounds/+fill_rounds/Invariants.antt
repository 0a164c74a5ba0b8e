use Rattle.std.proofs.Common.{length}
use Rattle.response_program.proofs.in_rounds.+fill_rounds.Given as goal

abbrev pub decreases-fill_rounds : goal.decreases-fill_rounds
decreases-fill_rounds g l = length l.pairs.now
