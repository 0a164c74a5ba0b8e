use Rattle.std.proofs.Common.{length}
use Rattle.program_words.proofs.rounds.+end_rounds.Given as goal

abbrev pub decreases-end_rounds : goal.decreases-end_rounds
decreases-end_rounds l = length l.pairs.now
