use Rattle.std.proofs.Common.{◌≡◌, ◌++◌, ◌+◌, subst, sym, refl, take, Ok, Err, arith}
use Rattle.command_words.specs.Pages.{Gathered}
use Rattle.command_words.proofs.Pages.{gathered_then, gathered_short}
use Rattle.plan_journal.specs.Entries.{entry_text, entries_text}
use Rattle.plan_journal.proofs.Texts.{entries_more, entries_rest, entries_behind}
use Rattle.plan_journal.proofs.write.put_entries.Goals as goal

pub loop-place-preserved : goal.loop-place-preserved
loop-place-preserved g c =
    let front = entries_text 1 (take c.loop-place.place c.args.entries.now) in
    let own = entry_text (c.loop-place.place + 1) c.index-entries-place.result in
    let both = gathered_then g.S.Sink.taken g.S.Sink.faults g.S.Sink.label _ _ _ _ _ _ front own tt _ _ refl c.loop-place.invariant c.put_entry.ensures in
    subst (λ t. Gathered {T = Unit {0}} g.S.Sink.taken g.S.Sink.faults g.S.Sink.label c.args.sink.now c.put_entry.new.sink c.args.page.now.items c.put_entry.new.page.items t (Ok tt))
    (sym (entries_more 1 c.args.entries.now c.loop-place.place (c.loop-place.place + 1) c.index-entries-place.result c.loop-place-test.true (let next : c.loop-place.place + 1 ≡ 1 + c.loop-place.place = omega arith in next) c.index-entries-place.is))
    (subst (λ r. Gathered g.S.Sink.taken g.S.Sink.faults g.S.Sink.label c.args.sink.now c.put_entry.new.sink c.args.page.now.items c.put_entry.new.page.items (front ++ own) r) c.in_default.is both)

pub returns-in-Err : goal.returns-in-Err
returns-in-Err g c =
    let front = entries_text 1 (take c.loop-place.place c.args.entries.now) in
    let own = entry_text (c.loop-place.place + 1) c.index-entries-place.result in
    let both = gathered_then g.S.Sink.taken g.S.Sink.faults g.S.Sink.label _ _ _ _ _ _ front own tt _ _ refl c.loop-place.invariant c.put_entry.ensures in
    subst (λ t. Gathered {T = Unit {0}} g.S.Sink.taken g.S.Sink.faults g.S.Sink.label c.args.sink.now c.put_entry.new.sink c.args.page.now.items c.put_entry.new.page.items t (Err c.in-Err.fault))
    (sym (entries_rest 1 c.args.entries.now c.loop-place.place (c.loop-place.place + 1) c.index-entries-place.result c.loop-place-test.true (let next : c.loop-place.place + 1 ≡ 1 + c.loop-place.place = omega arith in next) c.index-entries-place.is))
    (gathered_short g.S.Sink.taken g.S.Sink.faults g.S.Sink.label _ _ _ _ _ (front ++ own) (entries_behind 1 c.args.entries.now c.loop-place.place) _ c.in-Err.fault c.in-Err.is both)
