use Rattle.std.proofs.Common.{◌≡◌, ◌∙◌, ◌+◌, Ok, Err, sym, ap, subst, arith}
use Rattle.std.specs.Prelude.{option_map, IfSome, length, ◌≤◌}
use Rattle.request_loop.proofs.Lines.{shown_is_short}
use Rattle.byte_lines.specs.Lines.{line_of}
use Rattle.request_loop.specs.Heard.{counted_after}
use Rattle.request_loop.specs.Serving.{ServedMore}
use Rattle.request_loop.proofs.OneLine.{over, shown_heard}
use Rattle.request_loop.specs.declared.hear.Stop.TheVariants as stop
use Rattle.request_loop.proofs.NoReply.{no_limit}
use Rattle.request_loop.proofs.serve.serve_line.Goals as goal

pub hear-heard-requires-clause-short : goal.hear-heard-requires-clause-short
hear-heard-requires-clause-short g c = subst (λ l. IfSome l (λ text. length text ≤ 1024)) (sym (c.text_of.ensures ∙ c.line.ensures)) (shown_is_short c.args.progress.now.cutter.kept)

pub returns-then-progress-ge-LINE_LIMIT-clause-served : goal.returns-then-progress-ge-LINE_LIMIT-clause-served
returns-then-progress-ge-LINE_LIMIT-clause-served g c old input left before so =
    over (g.A.Answers.gives c.args.answers.now) (g.A.Answers.stops c.args.answers.now) g.K.Sink.taken old c.args.state.now input c.args.progress.now.lines c.args.progress.now.requests c.args.progress.now.user c.args.progress.now.rows c.args.page.now.items before c.args.sink.now
    (line_of c.args.progress.now.cutter.kept) left so (omega (arith, c.if-progress-ge-LINE_LIMIT.true))

pub returns-in-Ok-clause-served : goal.returns-in-Ok-clause-served
returns-in-Ok-clause-served g c old input left before so =
    subst (λ n. ServedMore (g.A.Answers.gives c.args.answers.now) (g.A.Answers.stops c.args.answers.now) old c.hear-heard.new.state input left (c.args.progress.now.lines + 1) n c.hear-heard.new.user c.hear-heard.new.rows c.hear-heard.new.page.items before (g.K.Sink.taken c.hear-heard.new.sink) (Ok tt)) (sym (c.requests_after-progress.ensures ∙ ap (counted_after c.args.progress.now.requests) c.in-Ok.is))
    (shown_heard (g.A.Answers.gives c.args.answers.now) (g.A.Answers.stops c.args.answers.now) g.K.Sink.taken old c.args.state.now input c.args.progress.now.lines c.args.progress.now.requests c.args.progress.now.user c.args.progress.now.rows c.args.page.now.items before c.args.sink.now
    (line_of c.args.progress.now.cutter.kept) left so (option_map (λ text. text.now) c.text_of.result) (c.text_of.ensures ∙ c.line.ensures) c.hear-heard.new.state c.hear-heard.new.user c.hear-heard.new.rows c.hear-heard.new.page.items c.hear-heard.new.sink (Ok c.in-Ok.field-0) (omega (arith, c.if-progress-ge-LINE_LIMIT.false)) (c.in-Ok.ensures.heard so.kept so.gathered))

pub returns-in-Err-clause-served : goal.returns-in-Err-clause-served
returns-in-Err-clause-served g c old input left before so =
    subst (λ n. ServedMore (g.A.Answers.gives c.args.answers.now) (g.A.Answers.stops c.args.answers.now) old c.hear-heard.new.state input left (c.args.progress.now.lines + 1) n c.hear-heard.new.user c.hear-heard.new.rows c.hear-heard.new.page.items before (g.K.Sink.taken c.hear-heard.new.sink) (Err c.in-Err.stop)) (sym (c.requests_after-progress.ensures ∙ ap (counted_after c.args.progress.now.requests) c.in-Err.is))
    (shown_heard (g.A.Answers.gives c.args.answers.now) (g.A.Answers.stops c.args.answers.now) g.K.Sink.taken old c.args.state.now input c.args.progress.now.lines c.args.progress.now.requests c.args.progress.now.user c.args.progress.now.rows c.args.page.now.items before c.args.sink.now
    (line_of c.args.progress.now.cutter.kept) left so (option_map (λ text. text.now) c.text_of.result) (c.text_of.ensures ∙ c.line.ensures) c.hear-heard.new.state c.hear-heard.new.user c.hear-heard.new.rows c.hear-heard.new.page.items c.hear-heard.new.sink (Err c.in-Err.stop) (omega (arith, c.if-progress-ge-LINE_LIMIT.false)) (c.in-Err.ensures.heard so.kept so.gathered))

pub returns-in-Err-clause-full : goal.returns-in-Err-clause-full
returns-in-Err-clause-full g c is =
    let same : c.in-Err.stop ≡ stop.Limit = cc in
    absurd (no_limit (g.A.Answers.gives c.args.answers.now) (g.A.Answers.stops c.args.answers.now) g.K.Sink.taken c.args.state.now c.hear-heard.new.state c.args.progress.now.user c.hear-heard.new.user c.args.page.now.items c.hear-heard.new.page.items c.args.sink.now c.hear-heard.new.sink
    c.requires.rows.0 c.hear-heard.new.rows (c.args.progress.now.lines + 1, option_map (λ text. text.now) c.text_of.result) c.in-Err.stop (c.in-Err.ensures.heard c.requires.rows.0 c.requires.rows.1) same)
