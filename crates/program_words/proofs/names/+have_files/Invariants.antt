use Rattle.std.proofs.Common.{length}
use Rattle.program_words.proofs.names.+have_files.Given as goal

abbrev pub decreases-have_files : goal.decreases-have_files
decreases-have_files l = length l.pairs.now
