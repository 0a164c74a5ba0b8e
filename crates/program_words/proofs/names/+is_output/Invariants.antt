use Rattle.std.proofs.Common.{length}
use Rattle.program_words.proofs.names.+is_output.Given as goal

abbrev pub decreases-is_output : goal.decreases-is_output
decreases-is_output l = length l.pairs.now
