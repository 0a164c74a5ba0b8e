use Rattle.row_text.proofs.Rows.{row_again, row_alone}
use Rattle.row_text.proofs.laws.rows_have_one_spelling.Goals as goal

pub returns-clause-again : goal.returns-clause-again
returns-clause-again c = row_again

pub returns-clause-alone : goal.returns-clause-alone
returns-clause-alone c = row_alone
