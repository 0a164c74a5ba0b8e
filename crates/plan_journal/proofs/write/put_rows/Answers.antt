use Rattle.std.proofs.Common.{ℕ, List, ◌++◌, ◌+◌, subst, sym, refl, take, drop, Ok, Err}
use Rattle.plan_schema.specs.declared.key.Key.{Key}
use Rattle.plan_schema.specs.declared.key.Record.{Record}
use Rattle.row_text.specs.Spelling.{row_text}
use Rattle.command_words.specs.Pages.{Gathered}
use Rattle.command_words.specs.Replies.{ended}
use Rattle.command_words.proofs.Pages.{gathered_then, gathered_short}
use Rattle.command_words.proofs.Texts.{ended_more, ended_rest}
use Rattle.plan_journal.specs.Entries.{rows_text}
use Rattle.plan_journal.proofs.write.put_rows.Goals as goal

-- the text of a row
abbrev text : Key × Record → List ℕ
text row = row_text row.0 row.1

pub loop-row-preserved : goal.loop-row-preserved
loop-row-preserved g c =
    let front = rows_text (take c.loop-row.row-index c.args.rows.now) in
    let both = gathered_then g.S.Sink.taken g.S.Sink.faults g.S.Sink.label _ _ _ _ _ _ front (ended (text c.row-item.result)) tt _ _ refl c.loop-row.invariant c.put_row.ensures in
    subst (λ t. Gathered {T = Unit {0}} g.S.Sink.taken g.S.Sink.faults g.S.Sink.label c.args.sink.now c.put_row.new.sink c.args.page.now.items c.put_row.new.page.items t (Ok tt))
    (sym (ended_more text c.args.rows.now c.loop-row.row-index c.row-item.result (text c.row-item.result) c.loop-row-test.true c.row-item.is refl))
    (subst (λ r. Gathered g.S.Sink.taken g.S.Sink.faults g.S.Sink.label c.args.sink.now c.put_row.new.sink c.args.page.now.items c.put_row.new.page.items (front ++ ended (text c.row-item.result)) r) c.in_default.is both)

pub returns-in-Err : goal.returns-in-Err
returns-in-Err g c =
    let front = rows_text (take c.loop-row.row-index c.args.rows.now) in
    let both = gathered_then g.S.Sink.taken g.S.Sink.faults g.S.Sink.label _ _ _ _ _ _ front (ended (text c.row-item.result)) tt _ _ refl c.loop-row.invariant c.put_row.ensures in
    subst (λ t. Gathered {T = Unit {0}} g.S.Sink.taken g.S.Sink.faults g.S.Sink.label c.args.sink.now c.put_row.new.sink c.args.page.now.items c.put_row.new.page.items t (Err c.in-Err.fault))
    (sym (ended_rest text c.args.rows.now c.loop-row.row-index c.row-item.result (text c.row-item.result) c.loop-row-test.true c.row-item.is refl))
    (gathered_short g.S.Sink.taken g.S.Sink.faults g.S.Sink.label _ _ _ _ _ (front ++ ended (text c.row-item.result)) (rows_text (drop (c.loop-row.row-index + 1) c.args.rows.now)) _ c.in-Err.fault c.in-Err.is both)
