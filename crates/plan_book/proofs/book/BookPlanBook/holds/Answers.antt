use Rattle.std.proofs.Common.{◌∙◌, sym, subst}
use Rattle.plan_core.specs.Holds.{HoldsFor}
use Rattle.plan_book.proofs.Told.{state_back}
use Rattle.plan_book.proofs.book.BookPlanBook.holds.Goals as goal

pub returns : goal.returns
returns c = subst HoldsFor (c.self.view_is ∙ sym (state_back c.args.self.now)) c.holds.ensures
