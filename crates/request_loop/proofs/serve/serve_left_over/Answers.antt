use Rattle.std.proofs.Common.{sym}
use Rattle.request_loop.proofs.LeftOver.{nothing_left, left_handed_on}
use Rattle.request_loop.proofs.serve.serve_left_over.Goals as goal

pub returns-in_default-clause-served : goal.returns-in_default-clause-served
returns-in_default-clause-served g c old input before so =
    nothing_left (g.A.Answers.gives c.args.answers.now) (g.A.Answers.stops c.args.answers.now) old c.args.state.now input c.args.progress.now.lines c.args.progress.now.requests c.args.progress.now.user c.args.progress.now.rows c.args.page.now.items before (g.K.Sink.taken c.args.sink.now) so
    (sym c.in_default.ensures.value)

pub returns-clause-served : goal.returns-clause-served
returns-clause-served g c old input before so =
    left_handed_on (g.A.Answers.gives c.args.answers.now) (g.A.Answers.stops c.args.answers.now) g.K.Sink.taken old c.args.state.now input c.args.progress.now.lines c.args.progress.now.requests c.args.progress.now.user c.args.progress.now.rows c.args.page.now.items before c.args.sink.now so
    c.in-Some.begun (sym c.in-Some.ensures.value) c.cut_short-bad.result c.cut_short-bad.ensures c.fault_handed_on.new.state c.fault_handed_on.new.page.items c.fault_handed_on.new.sink
    c.saturating_add-progress.result c.saturating_add-progress.ensures c.fault_handed_on.result c.fault_handed_on.ensures.taken
