use Rattle.std.proofs.Common.{◌+◌, ◌∙◌, ◌++◌, drop, length, Some, [], ap, sym, subst, arith}
use Rattle.std.proofs.lemmas.List.{length-drop}
use Rattle.byte_lines.specs.Lines.{lines_after, lines_from}
use Rattle.request_loop.specs.Serving.{SoFar}
use Rattle.request_loop.proofs.Pieces.{from_place, completed, completed_one, begun_more, begun_none, read_all, lines_at_end, counted_one}
use Rattle.request_loop.proofs.serve.serve_piece.Goals as goal

pub returns-in-Err-clause-served : goal.returns-in-Err-clause-served
returns-in-Err-clause-served g c old input rest before so =
    c.in-Err.ensures.served old input (lines_after (Some []) (drop (c.loop-done.done + c.feed-count.result.0) c.args.piece.now ++ rest)) before
    (subst (λ left. SoFar (g.A.Answers.gives c.args.answers.now) (g.A.Answers.stops c.args.answers.now) old c.loop-done.state input left c.loop-done.progress.lines c.loop-done.progress.requests c.loop-done.progress.user c.loop-done.progress.rows c.loop-done.page.items before (g.K.Sink.taken c.loop-done.sink))
    (completed c.loop-done.progress.cutter.kept c.feed-count.new.self.kept c.args.piece.now _ rest c.loop-done.done c.feed-count.result.0 (from_place c.args.piece.now c.loop-done.done) (c.feed-count.ensures.complete c.if-is_complete.true))
    (c.loop-done.invariant.served old input rest before so))

pub returns-in-Err-clause-full : goal.returns-in-Err-clause-full
returns-in-Err-clause-full g c is = let f = c.in-Err.ensures.full is in let n = c.loop-done.invariant.counted in omega (arith, f, n)

pub loop-done-preserved-in_default : goal.loop-done-preserved-in_default
loop-done-preserved-in_default g c =
    let long = length-drop c.loop-done.done c.args.piece.now in
    let cutter = c.in_default.ensures.begun in
    let kept_is = ap (λ so_far. so_far.kept) cutter in
    let later = drop (c.loop-done.done + c.feed-count.result.0) c.args.piece.now in
    let one = completed_one c.loop-done.progress.cutter.kept c.feed-count.new.self.kept c.args.piece.now _ c.loop-done.done c.feed-count.result.0 (from_place c.args.piece.now c.loop-done.done) (c.feed-count.ensures.complete c.if-is_complete.true) in
    record {
      ready = c.serve_line.ensures.ready;
      rows = c.serve_line.ensures.rows;
      within = omega (arith, long, ap length (from_place c.args.piece.now c.loop-done.done), c.feed-count.ensures.within, c.loop-done.invariant.within);
      begun = ap (λ so_far. so_far.is_complete) cutter;
      later = omega (arith, c.loop-done.invariant.later, c.in_default.ensures.cause.later);
      same = c.in_default.ensures.cause.same ∙ c.loop-done.invariant.same;
      counted = (λ i. c.in_default.ensures.counted i + length (lines_from (kept_is i) later).0)
          ∙ counted_one c.loop-done.progress.lines (length (lines_from (Some []) later).0) ∙ ap (λ p. c.loop-done.progress.lines + length p.0) (sym one) ∙ c.loop-done.invariant.counted;
      ends = ap (λ k. (lines_from k later).1) kept_is ∙ ap (λ p. p.1) (sym one) ∙ c.loop-done.invariant.ends;
      served = λ old input rest before so.
          subst (λ kept. SoFar (g.A.Answers.gives c.args.answers.now) (g.A.Answers.stops c.args.answers.now) old c.serve_line.new.state input (lines_after kept (later ++ rest)) c.serve_line.new.progress.lines c.serve_line.new.progress.requests c.serve_line.new.progress.user c.serve_line.new.progress.rows c.serve_line.new.page.items before (g.K.Sink.taken c.serve_line.new.sink))
          (sym kept_is)
          (c.in_default.ensures.served old input (lines_after (Some []) (later ++ rest)) before
          (subst (λ left. SoFar (g.A.Answers.gives c.args.answers.now) (g.A.Answers.stops c.args.answers.now) old c.loop-done.state input left c.loop-done.progress.lines c.loop-done.progress.requests c.loop-done.progress.user c.loop-done.progress.rows c.loop-done.page.items before (g.K.Sink.taken c.loop-done.sink))
          (completed c.loop-done.progress.cutter.kept c.feed-count.new.self.kept c.args.piece.now _ rest c.loop-done.done c.feed-count.result.0 (from_place c.args.piece.now c.loop-done.done) (c.feed-count.ensures.complete c.if-is_complete.true))
          (c.loop-done.invariant.served old input rest before so)));
    }

pub loop-done-preserved : goal.loop-done-preserved
loop-done-preserved g c =
    let long = length-drop c.loop-done.done c.args.piece.now in
    let none = begun_none c.loop-done.progress.cutter.kept c.feed-count.new.self.kept c.args.piece.now _ c.loop-done.done c.feed-count.result.0 (from_place c.args.piece.now c.loop-done.done) (c.feed-count.ensures.begun c.if-is_complete.false) (c.feed-count.ensures.all c.if-is_complete.false) in
    record {
      ready = c.loop-done.invariant.ready;
      rows = c.loop-done.invariant.rows;
      within = omega (arith, long, ap length (from_place c.args.piece.now c.loop-done.done), c.feed-count.ensures.within, c.loop-done.invariant.within);
      begun = c.feed-count.ensures.told ∙ c.if-is_complete.false;
      later = c.loop-done.invariant.later;
      same = c.loop-done.invariant.same;
      counted = ap (λ p. c.loop-done.progress.lines + length p.0) (sym none) ∙ c.loop-done.invariant.counted;
      ends = ap (λ p. p.1) (sym none) ∙ c.loop-done.invariant.ends;
      served = λ old input rest before so.
          subst (λ left. SoFar (g.A.Answers.gives c.args.answers.now) (g.A.Answers.stops c.args.answers.now) old c.loop-done.state input left c.loop-done.progress.lines c.loop-done.progress.requests c.loop-done.progress.user c.loop-done.progress.rows c.loop-done.page.items before (g.K.Sink.taken c.loop-done.sink))
          (begun_more c.loop-done.progress.cutter.kept c.feed-count.new.self.kept c.args.piece.now _ rest c.loop-done.done c.feed-count.result.0 (from_place c.args.piece.now c.loop-done.done) (c.feed-count.ensures.begun c.if-is_complete.false) (c.feed-count.ensures.all c.if-is_complete.false))
          (c.loop-done.invariant.served old input rest before so);
    }

pub returns-clause-kept : goal.returns-clause-kept
returns-clause-kept g c = sym (ap (λ p. p.1) (lines_at_end c.loop-done.progress.cutter.kept c.args.piece.now c.loop-done.done c.loop-done-test.false)) ∙ c.loop-done.invariant.ends

pub returns-clause-counted : goal.returns-clause-counted
returns-clause-counted g c =
    let none = ap (λ p. length p.0) (lines_at_end c.loop-done.progress.cutter.kept c.args.piece.now c.loop-done.done c.loop-done-test.false) in
    omega (arith, none, c.loop-done.invariant.counted)

pub returns-clause-served : goal.returns-clause-served
returns-clause-served g c old input rest before so =
    subst (λ left. SoFar (g.A.Answers.gives c.args.answers.now) (g.A.Answers.stops c.args.answers.now) old c.loop-done.state input (lines_after c.loop-done.progress.cutter.kept (left ++ rest)) c.loop-done.progress.lines c.loop-done.progress.requests c.loop-done.progress.user c.loop-done.progress.rows c.loop-done.page.items before (g.K.Sink.taken c.loop-done.sink))
    (read_all c.args.piece.now c.loop-done.done c.loop-done-test.false)
    (c.loop-done.invariant.served old input rest before so)
