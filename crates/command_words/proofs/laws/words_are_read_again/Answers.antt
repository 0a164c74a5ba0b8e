use Rattle.command_words.proofs.Again.{words_again}
use Rattle.command_words.proofs.laws.words_are_read_again.Goals as goal

pub returns : goal.returns
returns c = words_again
