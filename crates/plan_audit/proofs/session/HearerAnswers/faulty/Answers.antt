use Rattle.std.proofs.Common.{refl}
use Rattle.plan_audit.proofs.session.HearerAnswers.faulty.Goals as goal

pub returns-in-Err-clause-err : goal.returns-in-Err-clause-err
returns-in-Err-clause-err g c = (refl, record { source = c.judge_fault.ensures.source; halted = (refl, c.in-Err.ensures.judged c.args._user.now) })
