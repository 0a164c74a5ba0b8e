use Rattle.std.proofs.Common.{length}
use Rattle.program_words.proofs.names.+is_no_output_input.Given as goal

abbrev pub decreases-is_no_output_input : goal.decreases-is_no_output_input
decreases-is_no_output_input l = length l.some.now
