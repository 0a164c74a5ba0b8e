use Rattle.std.proofs.Common.{sym, subst}
use Rattle.plan_journal.specs.Reading.{journal_of}
use Rattle.plan_journal.specs.Told.{Tells}
use Rattle.plan_journal.proofs.JournalTold.{no_head, other_head, known_head}
use Rattle.plan_journal.proofs.JournalLaws.{told_journal}
use Rattle.plan_journal.proofs.read.read_text.Goals as goal

pub returns-in_default-clause-told : goal.returns-in_default-clause-told
returns-in_default-clause-told c = no_head c.args.text.now c.in_default.ensures

pub returns-in_default-read-clause-told : goal.returns-in_default-read-clause-told
returns-in_default-read-clause-told c = other_head c.args.text.now c.in-Some.head.now c.in-Some.behind.now c.in-Some.ensures (sym c.in_default-read.ensures)

pub returns : goal.returns
returns c =
    let told : Tells (journal_of c.args.text.now) c.read_entries.result =
    subst (λ read. Tells read c.read_entries.result)
    (sym (known_head c.args.text.now c.in-Some.head.now c.in-Some.behind.now c.in-Some-read.version c.in-Some.ensures (sym c.in-Some-read.ensures)))
    c.read_entries.ensures in
    record { told = told; journal = told_journal c.args.text.now c.read_entries.result told }
