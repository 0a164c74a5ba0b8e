use Rattle.std.proofs.Common.{subst}
use Rattle.plan_journal.specs.Reading.{journal_of}
use Rattle.plan_journal.specs.Told.{Tells}
use Rattle.plan_journal.proofs.JournalTold.{text_told, large_told}
use Rattle.plan_journal.proofs.read.read_journal.Goals as goal

pub returns-in-Ok : goal.returns-in-Ok
returns-in-Ok g c =
    text_told g.S.Source.left g.S.Source.faults g.S.Source.label c.args.source.now c.read_all.new.source c.in-Ok.bytes c.read_text.result c.in-Ok.ensures
    (subst (λ text. Tells (journal_of text) c.read_text.result) c.as_slice.ensures c.read_text.ensures.told) c.read_text.ensures.journal

pub returns-in-Err-Large : goal.returns-in-Err-Large
returns-in-Err-Large g c =
    large_told g.S.Source.left g.S.Source.faults g.S.Source.label c.args.source.now c.read_all.new.source (rw c.in-Err-Large.field-0-is at c.in-Err-Large.ensures)
