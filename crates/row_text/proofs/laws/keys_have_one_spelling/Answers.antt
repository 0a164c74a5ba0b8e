use Rattle.row_text.proofs.KeyForms.{key_again, key_alone}
use Rattle.row_text.proofs.laws.keys_have_one_spelling.Goals as goal

pub returns-clause-again : goal.returns-clause-again
returns-clause-again c = key_again

pub returns-clause-alone : goal.returns-clause-alone
returns-clause-alone c = key_alone
