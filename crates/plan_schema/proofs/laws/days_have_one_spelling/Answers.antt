use Rattle.plan_schema.proofs.DayLaws.{day_read_again, day_alone}
use Rattle.plan_schema.proofs.laws.days_have_one_spelling.Goals as goal

pub returns-clause-again : goal.returns-clause-again
returns-clause-again c = day_read_again

pub returns-clause-alone : goal.returns-clause-alone
returns-clause-alone c = day_alone
