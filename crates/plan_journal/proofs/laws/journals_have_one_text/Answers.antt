use Rattle.plan_journal.proofs.JournalLaws.{read_again, read_alone, large_first}
use Rattle.plan_journal.proofs.laws.journals_have_one_text.Goals as goal

pub returns-clause-again : goal.returns-clause-again
returns-clause-again c = read_again

pub returns-clause-alone : goal.returns-clause-alone
returns-clause-alone c = read_alone

pub returns-clause-large : goal.returns-clause-large
returns-clause-large c = large_first
