use Rattle.std.proofs.Common.{length}
use Rattle.program_words.proofs.names.+is_input.Given as goal

abbrev pub decreases-is_input : goal.decreases-is_input
decreases-is_input l = length l.pairs.now
