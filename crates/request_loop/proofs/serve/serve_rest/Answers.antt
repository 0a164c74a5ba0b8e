use Rattle.std.proofs.Common.{Err, ap}
use Rattle.request_loop.proofs.LastLines.{as_last}
use Rattle.request_loop.proofs.serve.serve_rest.Goals as goal

pub returns-in-Err-clause-served : goal.returns-in-Err-clause-served
returns-in-Err-clause-served g c old input before so =
    as_last (g.A.Answers.gives c.args.answers.now) (g.A.Answers.stops c.args.answers.now) old c.args.state.now c.serve_last.new.state input c.args.progress.now.cutter.kept c.args.progress.now.lines c.args.progress.now.requests c.args.progress.now.user c.args.progress.now.rows c.args.page.now.items before (g.K.Sink.taken c.args.sink.now) so
    c.serve_last.new.progress.lines c.serve_last.new.progress.requests c.serve_last.new.progress.user c.serve_last.new.progress.rows c.serve_last.new.page.items (g.K.Sink.taken c.serve_last.new.sink) c.in-Err.stop (λ why is. c.in-Err.ensures.stopped why (ap Err is)) (c.in-Err.ensures.served old input before so)
