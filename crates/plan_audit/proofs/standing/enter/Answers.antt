use Rattle.std.proofs.Common.{ap}
use Rattle.plan_schema.specs.declared.change.Change.{Change}
use Rattle.plan_book.specs.Books.{entry_for}
use Rattle.plan_audit.proofs.Entered.{entered_more, unentered}
use Rattle.plan_audit.proofs.standing.enter.Goals as goal

pub returns-in-Ok-clause-entered : goal.returns-in-Ok-clause-entered
returns-in-Ok-clause-entered c =
    let entry = c.args.entry.now in
    let h = c.in-Ok.ensures.changed in
    entered_more c.args.book.now c.change.new.self (entry_for entry.session entry.line entry.user c.in_ok-change.change) entry h.kept h.answer.entered
    (ap (λ (change : Change). entry_for entry.session entry.line entry.user change) c.in_ok-change.ensures)

pub returns-in-Err-clause-same : goal.returns-in-Err-clause-same
returns-in-Err-clause-same c =
    let entry = c.args.entry.now in
    unentered c.args.book.now c.change.new.self (entry_for entry.session entry.line entry.user c.in_ok-change.change) c.in-Err.field-0 c.in-Err.ensures.changed
