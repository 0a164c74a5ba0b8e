use Rattle.plan_answer.proofs.Asked.{asked_answer, barred_answer, refused_answer}
use Rattle.plan_answer.proofs.laws.asked_is_answered.Goals as goal

pub returns-clause-asked : goal.returns-clause-asked
returns-clause-asked c = asked_answer

pub returns-clause-barred : goal.returns-clause-barred
returns-clause-barred c = barred_answer

pub returns-clause-refused : goal.returns-clause-refused
returns-clause-refused c = refused_answer
