use Rattle.sessions.proofs.Entered.{gives_accepted, gives_refused, stops_failed}
use Rattle.sessions.proofs.change.reply_to_change.Goals as goal

pub returns-in-Ok-clause-ok : goal.returns-in-Ok-clause-ok
returns-in-Ok-clause-ok g c =
    gives_accepted (g.T.Reach.sight c.args.reach.now) (g.T.Reach.failed c.args.reach.now) (g.T.Reach.worn c.args.reach.now) c.args.state.now c.change.new.state c.args.user.now c.args.line c.args.change
    c.in-Ok.point c.in-Ok.ensures.made

pub returns-in-Err-Refused-clause-ok : goal.returns-in-Err-Refused-clause-ok
returns-in-Err-Refused-clause-ok g c =
    gives_refused (g.T.Reach.sight c.args.reach.now) (g.T.Reach.failed c.args.reach.now) (g.T.Reach.worn c.args.reach.now) c.args.state.now c.change.new.state c.args.user.now c.args.line c.args.change
    _ c.in-Err-Refused.point c.in-Err-Refused.refusal c.in-Err-Refused.field-0-is c.in-Err-Refused.ensures.made

pub returns-in-Err-Failed-clause-err : goal.returns-in-Err-Failed-clause-err
returns-in-Err-Failed-clause-err g c =
    stops_failed (g.T.Reach.sight c.args.reach.now) (g.T.Reach.failed c.args.reach.now) (g.T.Reach.worn c.args.reach.now) c.args.state.now c.change.new.state c.args.user.now c.args.line c.args.change
    _ c.in-Err-Failed.field-0-is c.in-Err-Failed.ensures.made
