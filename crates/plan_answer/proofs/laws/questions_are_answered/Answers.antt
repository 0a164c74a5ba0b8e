use Rattle.plan_answer.proofs.Answered.{answered, asks_where_it_wants}
use Rattle.plan_answer.proofs.laws.questions_are_answered.Goals as goal

pub returns-clause-asks : goal.returns-clause-asks
returns-clause-asks c = asks_where_it_wants

pub returns-clause-answered : goal.returns-clause-answered
returns-clause-answered c = answered
