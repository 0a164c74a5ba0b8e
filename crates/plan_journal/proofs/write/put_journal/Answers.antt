use Rattle.std.proofs.Common.{◌++◌, ap, subst}
use Rattle.std.proofs.lemmas.Result.{err_from_is_err_and}
use Rattle.command_words.specs.Pages.{Gathered}
use Rattle.command_words.specs.Replies.{ended}
use Rattle.command_words.proofs.Pages.{gathered_then, gathered_short}
use Rattle.plan_journal.specs.Entries.{journal_head, entries_text, journal_text}
use Rattle.plan_journal.proofs.write.put_journal.Goals as goal

pub returns : goal.returns
unfolding journal_text
returns g c =
    subst (λ t. Gathered g.S.Sink.taken g.S.Sink.faults g.S.Sink.label c.args.sink.now c.put_entries.new.sink c.args.page.now.items c.put_entries.new.page.items t c.put_entries.result)
    (ap (λ entries. ended journal_head ++ entries_text 1 entries) c.as_slice.ensures)
    (gathered_then g.S.Sink.taken g.S.Sink.faults g.S.Sink.label _ _ _ _ _ _ (ended journal_head) (entries_text 1 c.as_slice.result.now) _ _ _ c.in_ok-put_line.was c.put_line.ensures c.put_entries.ensures)

pub returns-in_err-put_line : goal.returns-in_err-put_line
unfolding journal_text
returns-in_err-put_line g c =
    let p = err_from_is_err_and c.from_residual.result c.from_residual.ensures.1 in
    rw (p.1, p.2) (gathered_short g.S.Sink.taken g.S.Sink.faults g.S.Sink.label _ _ _ _ _ (ended journal_head) (entries_text 1 c.args.journal.now.entries) _ _ c.in_err-put_line.was c.put_line.ensures)
