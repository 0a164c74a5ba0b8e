use Rattle.std.proofs.Common.{◌++◌, ◌∙◌, subst}
use Rattle.command_words.specs.Pages.{Gathered}
use Rattle.command_words.specs.Replies.{ended}
use Rattle.command_words.proofs.Pages.{gathered_then}
use Rattle.plan_journal.specs.Entries.{entry_text, rows_text}
use Rattle.plan_journal.proofs.write.put_entry.Goals as goal

pub returns : goal.returns
unfolding entry_text
returns g c =
    subst (λ t. Gathered g.S.Sink.taken g.S.Sink.faults g.S.Sink.label c.args.sink.now c.put_rows.new.sink c.args.page.now.items c.put_rows.new.page.items t c.put_rows.result)
    (λ i. ended ((c.as_slice.ensures.value ∙ c.line_bytes.ensures) i) ++ c.rows_of.ensures i)
    (gathered_then g.S.Sink.taken g.S.Sink.faults g.S.Sink.label _ _ _ _ _ _ (ended c.as_slice.result.now) (rows_text c.rows_of.result.now) _ _ _ c.in_ok-put_line.was c.put_line.ensures c.put_rows.ensures)
