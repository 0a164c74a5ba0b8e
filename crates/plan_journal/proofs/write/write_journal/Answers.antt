use Rattle.std.proofs.lemmas.Result.{err_from_is_err_and}
use Rattle.command_words.proofs.Pages.{gathered_written, gathered_front}
use Rattle.plan_journal.specs.Entries.{journal_text}
use Rattle.plan_journal.proofs.write.write_journal.Goals as goal

pub returns : goal.returns
returns g c = gathered_written g.S.Sink.taken g.S.Sink.faults g.S.Sink.label _ _ _ _ _ (journal_text c.args.journal.now.entries) _ _ _ c.new-page.ensures c.in_ok-put_journal.was c.put_journal.ensures c.flush.ensures.wrote

pub returns-in_err-put_journal : goal.returns-in_err-put_journal
returns-in_err-put_journal g c =
    let p = err_from_is_err_and c.from_residual.result c.from_residual.ensures.1 in
    rw (p.1, p.2) (gathered_front g.S.Sink.taken g.S.Sink.faults g.S.Sink.label _ _ _ _ (journal_text c.args.journal.now.entries) _ _ c.new-page.ensures c.in_err-put_journal.was c.put_journal.ensures)
