use Rattle.sessions.proofs.Exact.{exact_on_answered, point_on_answered, no_memory_for}
use Rattle.sessions.proofs.command.reply_to_command.Goals as goal

pub returns-in-Ok : goal.returns-in-Ok
returns-in-Ok g c =
    let sight = g.T.Reach.sight c.args.reach.now in
    let h = c.in-Ok.ensures in
    record {
      ready = h.ready;
      looks = h.looks;
      answered = exact_on_answered (sight c.args.state.now) (sight c.answer.new.state) c.args.user.now c.args.command.now h.looks c.in-Ok.reply h.exact;
      err = tt;
      worn = tt;
    }

pub returns-in-Ok-point-clause-answered : goal.returns-in-Ok-point-clause-answered
returns-in-Ok-point-clause-answered g c =
    let sight = g.T.Reach.sight c.args.reach.now in
    let h = c.in-Ok-point.ensures in
    point_on_answered (sight c.args.state.now) (sight c.point.new.state) c.args.user.now c.args.command.now h.looks c.in-Ok-point.point (no_memory_for c.args.command.now c.in-Hello.is) h.ok
