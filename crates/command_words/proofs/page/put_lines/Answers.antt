use Rattle.std.proofs.Common.{◌++◌, ◌+◌, subst, sym, refl, map, take, drop, Ok, Err}
use Rattle.std.specs.List.{flat_map}
use Rattle.command_words.specs.Pages.{Gathered}
use Rattle.command_words.specs.Replies.{ended}
use Rattle.command_words.proofs.Pages.{gathered_then, gathered_short}
use Rattle.command_words.proofs.Texts.{ended_more, ended_rest}
use Rattle.command_words.proofs.page.put_lines.Goals as goal

pub loop-line-preserved : goal.loop-line-preserved
loop-line-preserved g c =
    let front = flat_map ended (map (λ line. line.items) (take c.loop-line.line-index c.args.lines.now)) in
    let both = gathered_then g.S.Sink.taken g.S.Sink.faults g.S.Sink.label _ _ _ _ _ _ front (ended c.as_slice.result.now) tt _ _ refl c.loop-line.invariant c.put_line.ensures in
    subst (λ t. Gathered {T = Unit {0}} g.S.Sink.taken g.S.Sink.faults g.S.Sink.label c.args.sink.now c.put_line.new.sink c.args.page.now.items c.put_line.new.page.items t (Ok tt))
    (sym (ended_more (λ line. line.items) c.args.lines.now c.loop-line.line-index c.line-item.result c.as_slice.result.now c.loop-line-test.true c.line-item.is c.as_slice.ensures.value))
    (subst (λ r. Gathered g.S.Sink.taken g.S.Sink.faults g.S.Sink.label c.args.sink.now c.put_line.new.sink c.args.page.now.items c.put_line.new.page.items (front ++ ended c.as_slice.result.now) r) c.in_default.is both)

pub returns-in-Err : goal.returns-in-Err
returns-in-Err g c =
    let front = flat_map ended (map (λ line. line.items) (take c.loop-line.line-index c.args.lines.now)) in
    let both = gathered_then g.S.Sink.taken g.S.Sink.faults g.S.Sink.label _ _ _ _ _ _ front (ended c.as_slice.result.now) tt _ _ refl c.loop-line.invariant c.put_line.ensures in
    subst (λ t. Gathered {T = Unit {0}} g.S.Sink.taken g.S.Sink.faults g.S.Sink.label c.args.sink.now c.put_line.new.sink c.args.page.now.items c.put_line.new.page.items t (Err c.in-Err.fault))
    (sym (ended_rest (λ line. line.items) c.args.lines.now c.loop-line.line-index c.line-item.result c.as_slice.result.now c.loop-line-test.true c.line-item.is c.as_slice.ensures.value))
    (gathered_short g.S.Sink.taken g.S.Sink.faults g.S.Sink.label _ _ _ _ _ (front ++ ended c.as_slice.result.now) (flat_map ended (map (λ line. line.items) (drop (c.loop-line.line-index + 1) c.args.lines.now))) _ c.in-Err.fault c.in-Err.is both)
