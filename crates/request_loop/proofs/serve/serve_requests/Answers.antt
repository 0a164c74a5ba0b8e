use Rattle.std.proofs.Common.{◌∙◌, ◌≡◌, ◌≤◌, ◌++◌, [], None, Some, Err, take, length, sym, ap, subst, arith, refl, rules, length-append, append_assoc, append-nil}
use Rattle.plan_schema.proofs.Writes.{extended_nil}
use Rattle.byte_lines.specs.declared.rounds.Served.TheVariants as ends
use Rattle.request_loop.specs.Serving.{Going, SoFar, line_limit}
use Rattle.byte_lines.specs.Lines.{lines_after, lines_from}
use Rattle.request_loop.proofs.Going.{not_nameless, is_guest, begin, written, ends_short, no_sink_end, piece_more, behind_piece, bytes_behind, lines_behind, at_end}
use Rattle.request_loop.proofs.Exits.{by_last, by_stop, over_bytes, quit_within, last_within}
use Rattle.request_loop.proofs.Limits.{lines_in_time}
use Rattle.request_loop.proofs.serve.serve_requests.Goals as goal

pub unreachable-requires : goal.unreachable-requires
unreachable-requires g c = not_nameless (sym c.read.ensures ∙ c.in_default.is)

pub reads-init : goal.reads-init
reads-init g c =
    record {
      ready = c.requires;
      rows = (None, tt);
      begun = ap (λ k. k.is_complete) c.new.ensures;
      reads_later = omega arith;
      source_same = refl;
      writes_later = omega arith;
      sink_same = refl;
      going =
          subst (λ k. Going (g.A.Answers.gives c.args.answers.now) (g.A.Answers.stops c.args.answers.now) c.args.state.now c.args.state.now 0 0 c.in-Some.user None k c.new-page.result.items 1073741824 (g.S.Source.left c.args.source.now) (g.S.Source.left c.args.source.now) (g.K.Sink.taken c.args.sink.now) (g.K.Sink.taken c.args.sink.now)) (sym (ap (λ k. k.kept) c.new.ensures))
          (subst (λ p. Going (g.A.Answers.gives c.args.answers.now) (g.A.Answers.stops c.args.answers.now) c.args.state.now c.args.state.now 0 0 c.in-Some.user None (Some []) p 1073741824 (g.S.Source.left c.args.source.now) (g.S.Source.left c.args.source.now) (g.K.Sink.taken c.args.sink.now) (g.K.Sink.taken c.args.sink.now)) (let e : [] ≡ c.new-page.result.items = search rules in e)
          (begin (g.A.Answers.gives c.args.answers.now) (g.A.Answers.stops c.args.answers.now) c.args.state.now c.in-Some.user 1073741824 (g.S.Source.left c.args.source.now) (g.K.Sink.taken c.args.sink.now) (is_guest c.in-Some.user c.in-Some.ensures) refl));
    }

pub returns-in-Err-clause-served : goal.returns-in-Err-clause-served
returns-in-Err-clause-served g c =
    let no = no_sink_end c.in-Err.fault c.sink_fault.result c.sink_fault.ensures in
    ends_short (g.A.Answers.gives c.args.answers.now) (g.A.Answers.stops c.args.answers.now) c.args.state.now c.reads.state c.reads.progress.lines c.reads.progress.requests c.reads.progress.user c.reads.progress.rows c.reads.progress.cutter.kept c.reads.page.items c.reads.left
    (g.S.Source.left c.args.source.now) (g.S.Source.left c.reads.source) (g.K.Sink.taken c.args.sink.now) (g.K.Sink.taken c.reads.sink) c.reads.invariant.going (g.K.Sink.taken c.flush.new.sink) c.sink_fault.result
    c.in-Err.ensures.wrote.err no.0 no.1 no.2 no.3

pub returns-in_default-read-clause-served : goal.returns-in_default-read-clause-served
returns-in_default-read-clause-served g c =
    ends_short (g.A.Answers.gives c.args.answers.now) (g.A.Answers.stops c.args.answers.now) c.args.state.now c.reads.state c.reads.progress.lines c.reads.progress.requests c.reads.progress.user c.reads.progress.rows c.reads.progress.cutter.kept [] c.reads.left
    (g.S.Source.left c.args.source.now) (g.S.Source.left c.reads.source) (g.K.Sink.taken c.args.sink.now) (g.K.Sink.taken c.flush.new.sink)
    (written (g.A.Answers.gives c.args.answers.now) (g.A.Answers.stops c.args.answers.now) c.args.state.now c.reads.state c.reads.progress.lines c.reads.progress.requests c.reads.progress.user c.reads.progress.rows c.reads.progress.cutter.kept c.reads.page.items c.reads.left
    (g.S.Source.left c.args.source.now) (g.S.Source.left c.reads.source) (g.K.Sink.taken c.args.sink.now) (g.K.Sink.taken c.reads.sink) c.reads.invariant.going (g.K.Sink.taken c.flush.new.sink) c.in_default-flush.ensures.wrote.ok)
    (g.K.Sink.taken c.flush.new.sink) ends.ReadFault (record { count = 0; within = omega arith; front = extended_nil (g.K.Sink.taken c.flush.new.sink) })
    (λ count e. cc) (λ e. cc) (λ e. cc) (λ e. cc)

pub returns-then-count-eq0-clause-served : goal.returns-then-count-eq0-clause-served
returns-then-count-eq0-clause-served g c =
    let going = (written (g.A.Answers.gives c.args.answers.now) (g.A.Answers.stops c.args.answers.now) c.args.state.now c.reads.state c.reads.progress.lines c.reads.progress.requests c.reads.progress.user c.reads.progress.rows c.reads.progress.cutter.kept c.reads.page.items c.reads.left
    (g.S.Source.left c.args.source.now) (g.S.Source.left c.reads.source) (g.K.Sink.taken c.args.sink.now) (g.K.Sink.taken c.reads.sink) c.reads.invariant.going (g.K.Sink.taken c.flush.new.sink) c.in_default-flush.ensures.wrote.ok) in
    record {
      input = going.front ++ [];
      told = at_end (g.A.Answers.gives c.args.answers.now) (g.A.Answers.stops c.args.answers.now) c.args.state.now c.reads.state c.reads.progress.lines c.reads.progress.requests c.reads.progress.user c.reads.progress.rows c.reads.progress.cutter.kept [] c.reads.left (g.S.Source.left c.args.source.now) (g.S.Source.left c.reads.source) (g.K.Sink.taken c.args.sink.now) (g.K.Sink.taken c.flush.new.sink) going (g.S.Source.left c.read-in-reads.new.self) _ c.in-Ok.count c.if-count-eq0.true (search rules) c.in-Ok.ensures.bytes.1;
      serves = by_last (g.A.Answers.gives c.args.answers.now) (g.A.Answers.stops c.args.answers.now) g.K.Sink.taken c.args.state.now c.serve_rest-end.new.state (going.front ++ []) c.serve_rest-end.new.page.items (g.K.Sink.taken c.args.sink.now) c.serve_rest-end.new.sink c.ended.new.sink
          c.serve_rest-end.result c.serve_rest-end.new.progress.lines c.serve_rest-end.new.progress.requests c.serve_rest-end.new.progress.user c.ended.result
          (c.serve_rest-end.ensures.served c.args.state.now (going.front ++ []) (g.K.Sink.taken c.args.sink.now) (subst (λ p. SoFar (g.A.Answers.gives c.args.answers.now) (g.A.Answers.stops c.args.answers.now) c.args.state.now c.reads.state (going.front ++ []) (lines_after c.reads.progress.cutter.kept []) c.reads.progress.lines c.reads.progress.requests c.reads.progress.user c.reads.progress.rows p (g.K.Sink.taken c.args.sink.now) (g.K.Sink.taken c.flush.new.sink)) (sym c.in_default-flush.ensures.empty) (going.so_far []))) c.ended.ensures.text
          (let l = length-append going.front [] in let b = going.bytes in omega (arith, l, b))
          (λ is quit. last_within (g.A.Answers.gives c.args.answers.now) (g.A.Answers.stops c.args.answers.now) c.args.state.now c.reads.state c.serve_rest-end.new.state (going.front ++ []) c.reads.progress.cutter.kept c.reads.progress.lines c.reads.progress.requests c.reads.progress.user c.reads.progress.rows [] (g.K.Sink.taken c.args.sink.now) (g.K.Sink.taken c.flush.new.sink)
          c.serve_rest-end.new.progress.lines c.serve_rest-end.new.progress.requests c.serve_rest-end.new.page.items (g.K.Sink.taken c.serve_rest-end.new.sink) (let l = length-append going.front [] in let b = going.bytes in omega (arith, l, b)) (going.so_far []) (c.serve_rest-end.ensures.quit is) quit)
          (λ is. subst (λ n. line_limit ≤ n) (sym (ap (λ bytes. length (lines_from (Some []) bytes).0) (append-nil going.front) ∙ going.counted)) (c.serve_rest-end.ensures.full is));
    }

pub returns-in-Err-served-clause-served : goal.returns-in-Err-served-clause-served
returns-in-Err-served-clause-served g c =
    let going = (written (g.A.Answers.gives c.args.answers.now) (g.A.Answers.stops c.args.answers.now) c.args.state.now c.reads.state c.reads.progress.lines c.reads.progress.requests c.reads.progress.user c.reads.progress.rows c.reads.progress.cutter.kept c.reads.page.items c.reads.left
    (g.S.Source.left c.args.source.now) (g.S.Source.left c.reads.source) (g.K.Sink.taken c.args.sink.now) (g.K.Sink.taken c.reads.sink) c.reads.invariant.going (g.K.Sink.taken c.flush.new.sink) c.in_default-flush.ensures.wrote.ok) in
    let m = c.min-within.ensures in
    let rest = behind_piece (g.A.Answers.gives c.args.answers.now) (g.A.Answers.stops c.args.answers.now) c.args.state.now c.reads.state c.reads.progress.lines c.reads.progress.requests c.reads.progress.user c.reads.progress.rows c.reads.progress.cutter.kept [] c.reads.left (g.S.Source.left c.args.source.now) (g.S.Source.left c.reads.source) (g.K.Sink.taken c.args.sink.now) (g.K.Sink.taken c.flush.new.sink) going (g.S.Source.left c.args.source.now) refl (g.S.Source.left c.read-in-reads.new.self) c.read-in-reads.new.into c.in-Ok.count c.min-within.result c.in-Ok.ensures.bytes.0 (omega (arith, m)) c.in-Ok.ensures.bytes.1 in
    let bytes = bytes_behind (g.A.Answers.gives c.args.answers.now) (g.A.Answers.stops c.args.answers.now) c.args.state.now c.reads.state c.reads.progress.lines c.reads.progress.requests c.reads.progress.user c.reads.progress.rows c.reads.progress.cutter.kept [] c.reads.left (g.S.Source.left c.args.source.now) (g.S.Source.left c.reads.source) (g.K.Sink.taken c.args.sink.now) (g.K.Sink.taken c.flush.new.sink) going c.read-in-reads.new.into c.in-Ok.count c.min-within.result c.in-Ok.ensures.bytes.0 (omega (arith, m)) (omega (arith, m)) in
    let lines = lines_behind (g.A.Answers.gives c.args.answers.now) (g.A.Answers.stops c.args.answers.now) c.args.state.now c.reads.state c.reads.progress.lines c.reads.progress.requests c.reads.progress.user c.reads.progress.rows c.reads.progress.cutter.kept [] c.reads.left (g.S.Source.left c.args.source.now) (g.S.Source.left c.reads.source) (g.K.Sink.taken c.args.sink.now) (g.K.Sink.taken c.flush.new.sink) going c.read-in-reads.new.into c.min-within.result in
    record {
      input = going.front ++ (take c.min-within.result c.read-in-reads.new.into ++ rest.0);
      told = rest.1;
      serves = by_stop (g.A.Answers.gives c.args.answers.now) (g.A.Answers.stops c.args.answers.now) g.K.Sink.taken c.args.state.now c.serve_piece-served.new.state (going.front ++ (take c.min-within.result c.read-in-reads.new.into ++ rest.0)) c.serve_piece-served.new.page.items (g.K.Sink.taken c.args.sink.now) c.serve_piece-served.new.sink c.ended-in-Err-served.new.sink
          c.in-Err-served.stop (lines_after c.serve_piece-served.new.progress.cutter.kept rest.0) c.serve_piece-served.new.progress.lines c.serve_piece-served.new.progress.requests c.serve_piece-served.new.progress.user c.serve_piece-served.new.progress.rows c.ended-in-Err-served.result
          (c.in-Err-served.ensures.served c.args.state.now (going.front ++ (take c.min-within.result c.read-in-reads.new.into ++ rest.0)) rest.0 (g.K.Sink.taken c.args.sink.now) (subst (λ p. SoFar (g.A.Answers.gives c.args.answers.now) (g.A.Answers.stops c.args.answers.now) c.args.state.now c.reads.state (going.front ++ (take c.min-within.result c.read-in-reads.new.into ++ rest.0)) (lines_after c.reads.progress.cutter.kept (take c.min-within.result c.read-in-reads.new.into ++ rest.0)) c.reads.progress.lines c.reads.progress.requests c.reads.progress.user c.reads.progress.rows p (g.K.Sink.taken c.args.sink.now) (g.K.Sink.taken c.flush.new.sink)) (sym c.in_default-flush.ensures.empty) (going.so_far (take c.min-within.result c.read-in-reads.new.into ++ rest.0)))) c.ended-in-Err-served.ensures.text
          (λ is. quit_within (g.A.Answers.gives c.args.answers.now) (g.A.Answers.stops c.args.answers.now) g.K.Sink.taken c.args.state.now c.serve_piece-served.new.state (going.front ++ (take c.min-within.result c.read-in-reads.new.into ++ rest.0)) c.serve_piece-served.new.page.items (g.K.Sink.taken c.args.sink.now) c.serve_piece-served.new.sink c.ended-in-Err-served.new.sink
          (going.front ++ take c.min-within.result c.read-in-reads.new.into) rest.0 c.serve_piece-served.new.progress.lines c.serve_piece-served.new.progress.requests (sym (append_assoc going.front (take c.min-within.result c.read-in-reads.new.into) rest.0)) (let b = bytes in omega (arith, b)) (let n = lines in let few = c.in-Err-served.ensures.most in omega (arith, n, few)))
          (λ is. lines_in_time (going.front ++ (take c.min-within.result c.read-in-reads.new.into ++ rest.0)) (going.front ++ take c.min-within.result c.read-in-reads.new.into) rest.0 (sym (append_assoc going.front (take c.min-within.result c.read-in-reads.new.into) rest.0)) line_limit
          (let b = bytes in omega (arith, b)) (let n = lines in let full = c.in-Err-served.ensures.full (ap Err is) in omega (arith, n, full)))
          (lines_in_time (going.front ++ (take c.min-within.result c.read-in-reads.new.into ++ rest.0)) (going.front ++ take c.min-within.result c.read-in-reads.new.into) rest.0 (sym (append_assoc going.front (take c.min-within.result c.read-in-reads.new.into) rest.0)) c.serve_piece-served.new.progress.lines
          (let b = bytes in omega (arith, b)) (let n = lines in let few = c.in-Err-served.ensures.most in omega (arith, n, few)));
    }

pub returns-then-within-count-clause-served : goal.returns-then-within-count-clause-served
returns-then-within-count-clause-served g c =
    let going = (written (g.A.Answers.gives c.args.answers.now) (g.A.Answers.stops c.args.answers.now) c.args.state.now c.reads.state c.reads.progress.lines c.reads.progress.requests c.reads.progress.user c.reads.progress.rows c.reads.progress.cutter.kept c.reads.page.items c.reads.left
    (g.S.Source.left c.args.source.now) (g.S.Source.left c.reads.source) (g.K.Sink.taken c.args.sink.now) (g.K.Sink.taken c.reads.sink) c.reads.invariant.going (g.K.Sink.taken c.flush.new.sink) c.in_default-flush.ensures.wrote.ok) in
    let m = c.min-within.ensures in
    let rest = behind_piece (g.A.Answers.gives c.args.answers.now) (g.A.Answers.stops c.args.answers.now) c.args.state.now c.reads.state c.reads.progress.lines c.reads.progress.requests c.reads.progress.user c.reads.progress.rows c.reads.progress.cutter.kept [] c.reads.left (g.S.Source.left c.args.source.now) (g.S.Source.left c.reads.source) (g.K.Sink.taken c.args.sink.now) (g.K.Sink.taken c.flush.new.sink) going (g.S.Source.left c.args.source.now) refl (g.S.Source.left c.read-in-reads.new.self) c.read-in-reads.new.into c.in-Ok.count c.min-within.result c.in-Ok.ensures.bytes.0 (omega (arith, m)) c.in-Ok.ensures.bytes.1 in
    let bytes = bytes_behind (g.A.Answers.gives c.args.answers.now) (g.A.Answers.stops c.args.answers.now) c.args.state.now c.reads.state c.reads.progress.lines c.reads.progress.requests c.reads.progress.user c.reads.progress.rows c.reads.progress.cutter.kept [] c.reads.left (g.S.Source.left c.args.source.now) (g.S.Source.left c.reads.source) (g.K.Sink.taken c.args.sink.now) (g.K.Sink.taken c.flush.new.sink) going c.read-in-reads.new.into c.in-Ok.count c.min-within.result c.in-Ok.ensures.bytes.0 (omega (arith, m)) (omega (arith, m)) in
    let lines = lines_behind (g.A.Answers.gives c.args.answers.now) (g.A.Answers.stops c.args.answers.now) c.args.state.now c.reads.state c.reads.progress.lines c.reads.progress.requests c.reads.progress.user c.reads.progress.rows c.reads.progress.cutter.kept [] c.reads.left (g.S.Source.left c.args.source.now) (g.S.Source.left c.reads.source) (g.K.Sink.taken c.args.sink.now) (g.K.Sink.taken c.flush.new.sink) going c.read-in-reads.new.into c.min-within.result in
    record {
      input = going.front ++ (take c.min-within.result c.read-in-reads.new.into ++ rest.0);
      told = rest.1;
      serves = over_bytes (g.A.Answers.gives c.args.answers.now) (g.A.Answers.stops c.args.answers.now) g.K.Sink.taken c.args.state.now c.serve_piece-served.new.state (going.front ++ (take c.min-within.result c.read-in-reads.new.into ++ rest.0)) c.serve_piece-served.new.page.items (g.K.Sink.taken c.args.sink.now) c.serve_piece-served.new.sink c.ended-then-within-count.new.sink
          (going.front ++ take c.min-within.result c.read-in-reads.new.into) rest.0 (lines_after c.serve_piece-served.new.progress.cutter.kept rest.0) c.serve_piece-served.new.progress.lines c.serve_piece-served.new.progress.requests c.serve_piece-served.new.progress.user c.serve_piece-served.new.progress.rows c.ended-then-within-count.result
          (sym (append_assoc going.front (take c.min-within.result c.read-in-reads.new.into) rest.0)) (let b = bytes in omega (arith, b, m, c.if-within-count.true)) (let more = rest.2 in omega (arith, more, c.if-within-count.true)) (lines ∙ sym c.in_default-served.ensures.counted)
          (c.in_default-served.ensures.served c.args.state.now (going.front ++ (take c.min-within.result c.read-in-reads.new.into ++ rest.0)) rest.0 (g.K.Sink.taken c.args.sink.now) (subst (λ p. SoFar (g.A.Answers.gives c.args.answers.now) (g.A.Answers.stops c.args.answers.now) c.args.state.now c.reads.state (going.front ++ (take c.min-within.result c.read-in-reads.new.into ++ rest.0)) (lines_after c.reads.progress.cutter.kept (take c.min-within.result c.read-in-reads.new.into ++ rest.0)) c.reads.progress.lines c.reads.progress.requests c.reads.progress.user c.reads.progress.rows p (g.K.Sink.taken c.args.sink.now) (g.K.Sink.taken c.flush.new.sink)) (sym c.in_default-flush.ensures.empty) (going.so_far (take c.min-within.result c.read-in-reads.new.into ++ rest.0))))
          c.ended-then-within-count.ensures.text;
    }

pub reads-preserved : goal.reads-preserved
reads-preserved g c =
    record {
      ready = c.serve_piece-served.ensures.ready;
      rows = c.serve_piece-served.ensures.rows;
      begun = c.in_default-served.ensures.begun;
      reads_later = omega (arith, c.reads.invariant.reads_later, c.read-in-reads.ensures.cause.later);
      source_same = c.read-in-reads.ensures.same ∙ c.reads.invariant.source_same;
      writes_later = omega (arith, c.reads.invariant.writes_later, c.in_default-flush.ensures.wrote.cause.later, c.in_default-served.ensures.cause.later);
      sink_same = c.in_default-served.ensures.cause.same ∙ c.in_default-flush.ensures.wrote.same ∙ c.reads.invariant.sink_same;
      going =
          let h = c.in_default-served.ensures in let m = c.min-within.ensures in
          piece_more (g.A.Answers.gives c.args.answers.now) (g.A.Answers.stops c.args.answers.now) c.args.state.now c.reads.state c.reads.progress.lines c.reads.progress.requests c.reads.progress.user c.reads.progress.rows c.reads.progress.cutter.kept [] c.reads.left
          (g.S.Source.left c.args.source.now) (g.S.Source.left c.reads.source) (g.K.Sink.taken c.args.sink.now) (g.K.Sink.taken c.flush.new.sink)
          (written (g.A.Answers.gives c.args.answers.now) (g.A.Answers.stops c.args.answers.now) c.args.state.now c.reads.state c.reads.progress.lines c.reads.progress.requests c.reads.progress.user c.reads.progress.rows c.reads.progress.cutter.kept c.reads.page.items c.reads.left
          (g.S.Source.left c.args.source.now) (g.S.Source.left c.reads.source) (g.K.Sink.taken c.args.sink.now) (g.K.Sink.taken c.reads.sink) c.reads.invariant.going (g.K.Sink.taken c.flush.new.sink) c.in_default-flush.ensures.wrote.ok)
          c.serve_piece-served.new.state c.serve_piece-served.new.progress.lines c.serve_piece-served.new.progress.requests c.serve_piece-served.new.progress.user c.serve_piece-served.new.progress.rows c.serve_piece-served.new.progress.cutter.kept c.serve_piece-served.new.page.items
          (g.S.Source.left c.read-in-reads.new.self) (g.K.Sink.taken c.serve_piece-served.new.sink) _ c.in-Ok.count c.min-within.result (omega (arith, m)) (omega (arith, m, c.if-within-count.false)) c.in-Ok.ensures.bytes.0
          c.in-Ok.ensures.bytes.1 h.kept h.counted
          (λ input rest so. h.served c.args.state.now input rest (g.K.Sink.taken c.args.sink.now)
          (subst (λ p. SoFar (g.A.Answers.gives c.args.answers.now) (g.A.Answers.stops c.args.answers.now) c.args.state.now c.reads.state input (lines_after c.reads.progress.cutter.kept (take c.min-within.result c.read-in-reads.new.into ++ rest)) c.reads.progress.lines c.reads.progress.requests c.reads.progress.user c.reads.progress.rows p (g.K.Sink.taken c.args.sink.now) (g.K.Sink.taken c.flush.new.sink)) (sym c.in_default-flush.ensures.empty) so));
    }
