use Rattle.std.proofs.Common.{◌≡◌, Some, ap, sym, ◌∙◌, subst}
use Rattle.std.specs.Prelude.{OnOk}
use Rattle.plan_journal.specs.Places.{continued}
use Rattle.plan_journal.proofs.Steps.{waiting_row}
use Rattle.plan_journal.proofs.reading.Reading.take_line.Goals as goal

pub returns-in-Some-clause-ok : goal.returns-in-Some-clause-ok
returns-in-Some-clause-ok c =
    let row = waiting_row c.args.frame c.in-Some.begun c.args.line.now c.self.inside.journal.entries c.self.inside.records c.self.inside.begun c.take.new.self (sym c.in-Some.ensures.value) in
    subst (λ next. OnOk c.take_row.result (next ≡ Some c.take_row.new.self)) (sym (ap (λ place. continued c.args.frame place c.args.line.now) (sym c.self.view_is) ∙ row)) c.take_row.ensures.ok

pub returns-in-Some-clause-form : goal.returns-in-Some-clause-form
returns-in-Some-clause-form c h =
    let row = waiting_row c.args.frame c.in-Some.begun c.args.line.now c.self.inside.journal.entries c.self.inside.records c.self.inside.begun c.take.new.self (sym c.in-Some.ensures.value) in
    ap (λ place. continued c.args.frame place c.args.line.now) (sym c.self.view_is) ∙ row ∙ c.take_row.ensures.form h
