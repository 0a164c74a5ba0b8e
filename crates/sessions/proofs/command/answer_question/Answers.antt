use Rattle.std.proofs.Common.{sym}
use Rattle.sessions.proofs.Seen.{looks_same}
use Rattle.sessions.proofs.Asking.{job_for_at, job_exact_on, unasked_exact_on, if_ok}
use Rattle.sessions.proofs.command.answer_question.Goals as goal

pub answer_job-requires-clause-asks : goal.answer_job-requires-clause-asks
answer_job-requires-clause-asks g c =
    let sight = g.T.Reach.sight c.args.reach.now in
    job_for_at (sight c.args.state.now) (sight c.ask.new.state) (sight c.ask.new.state) c.args.user.now _ c.args.command.now _ c.requires.sound (sym c.in-Some.ensures) c.in-Ok.job c.in-Ok.ensures.ok

pub returns-in-Ok-clause-exact : goal.returns-in-Ok-clause-exact
returns-in-Ok-clause-exact g c =
    let sight = g.T.Reach.sight c.args.reach.now in
    if_ok c.answer_job.result c.answer_job.ensures.reply
    (job_exact_on (sight c.args.state.now) (sight c.ask.new.state) (sight c.answer_job.new.state) c.args.user.now _ c.args.command.now _ c.requires.sound (sym c.in-Some.ensures) c.in-Ok.ensures.looks c.answer_job.ensures.looks c.in-Ok.job c.in-Ok.ensures.ok)

pub returns-in-Err-clause-exact : goal.returns-in-Err-clause-exact
returns-in-Err-clause-exact g c =
    let sight = g.T.Reach.sight c.args.reach.now in
    if_ok c.answer_unasked.result c.answer_unasked.ensures.reply
    (unasked_exact_on (sight c.args.state.now) (sight c.ask.new.state) (sight c.ask.new.state) c.args.user.now _ c.args.command.now _ c.requires.sound (sym c.in-Some.ensures) c.in-Err.ensures.looks (looks_same (sight c.ask.new.state)) c.in-Err.fault c.in-Err.ensures.err)
