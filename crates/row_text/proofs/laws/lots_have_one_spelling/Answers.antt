use Rattle.row_text.proofs.Lots.{lot_again, lot_takes}
use Rattle.row_text.proofs.laws.lots_have_one_spelling.Goals as goal

pub returns-clause-again : goal.returns-clause-again
returns-clause-again c = lot_again

pub returns-clause-alone : goal.returns-clause-alone
returns-clause-alone c = lot_takes
