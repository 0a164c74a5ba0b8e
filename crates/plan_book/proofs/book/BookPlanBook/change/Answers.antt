use Rattle.std.proofs.Common.{subst}
use Rattle.plan_schema.specs.declared.change.Entry.{Entry}
use Rattle.plan_core.specs.State.{State}
use Rattle.plan_core.specs.Changes.{IsChangeAnswer}
use Rattle.plan_book.specs.Books.{entry_for}
use Rattle.plan_book.proofs.Told.{changed, worked}
use Rattle.plan_book.proofs.book.BookPlanBook.change.Goals as goal

pub returns-clause-changed : goal.returns-clause-changed
returns-clause-changed c =
    let entry : Entry = entry_for c.args.session c.args.line c.args.user.now c.args.change in
    changed c.args.self.now c.change.new.self entry c.change.result c.answer_of.result c.answer_of.ensures (subst (λ (s : State). IsChangeAnswer s c.change.new.self entry c.change.result) c.self.view_is c.change.ensures)

pub returns-clause-worked : goal.returns-clause-worked
returns-clause-worked c =
    let entry : Entry = entry_for c.args.session c.args.line c.args.user.now c.args.change in
    worked c.args.self.now c.change.new.self entry c.change.result c.answer_of.result c.answer_of.ensures (subst (λ (s : State). IsChangeAnswer s c.change.new.self entry c.change.result) c.self.view_is c.change.ensures)
