use Rattle.row_text.proofs.Fields.{number_again, number_takes}
use Rattle.row_text.proofs.laws.numbers_have_one_spelling.Goals as goal

pub returns-clause-again : goal.returns-clause-again
returns-clause-again c = number_again

pub returns-clause-alone : goal.returns-clause-alone
returns-clause-alone c = number_takes
