use Rattle.std.proofs.Common.{length}
use Rattle.program_words.proofs.rounds.+read_pairs.Given as goal

abbrev pub decreases-read_pairs : goal.decreases-read_pairs
decreases-read_pairs l = length l.names.now
