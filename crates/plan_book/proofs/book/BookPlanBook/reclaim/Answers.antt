use Rattle.std.proofs.Common.{◌∙◌, sym, subst, OnOk}
use Rattle.plan_core.specs.State.{State}
use Rattle.plan_core.specs.Reclaims.{IsReclaimed}
use Rattle.plan_book.proofs.Told.{state_back}
use Rattle.plan_book.proofs.book.BookPlanBook.reclaim.Goals as goal

pub returns-clause-ok : goal.returns-clause-ok
returns-clause-ok c =
    subst (λ (p : State × State). OnOk c.reclaim.result (IsReclaimed p.0 p.1)) (λ i. ((c.self.view_is ∙ sym (state_back c.args.self.now)) i, sym (state_back c.reclaim.new.self) i)) c.reclaim.ensures.ok
