use Rattle.std.proofs.lemmas.Result.{err_from_is_err_and}
use Rattle.command_words.proofs.Pages.{gathered_written, gathered_front}
use Rattle.plan_journal.specs.Entries.{entry_text}
use Rattle.plan_journal.proofs.write.write_entry.Goals as goal

pub returns : goal.returns
returns g c = gathered_written g.S.Sink.taken g.S.Sink.faults g.S.Sink.label _ _ _ _ _ (entry_text c.args.number c.args.entry.now) _ _ _ c.new-page.ensures c.in_ok-put_entry.was c.put_entry.ensures c.flush.ensures.wrote

pub returns-in_err-put_entry : goal.returns-in_err-put_entry
returns-in_err-put_entry g c =
    let p = err_from_is_err_and c.from_residual.result c.from_residual.ensures.1 in
    rw (p.1, p.2) (gathered_front g.S.Sink.taken g.S.Sink.faults g.S.Sink.label _ _ _ _ (entry_text c.args.number c.args.entry.now) _ _ c.new-page.ensures c.in_err-put_entry.was c.put_entry.ensures)
