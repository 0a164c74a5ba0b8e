use Rattle.std.proofs.Common.{◌∙◌, sym, subst}
use Rattle.plan_core.specs.State.{State}
use Rattle.plan_core.specs.Asks.{IsAsked, IsAskTrouble}
use Rattle.plan_book.proofs.Told.{state_back, ask_fault}
use Rattle.plan_book.proofs.book.BookPlanBook.ask.Goals as goal

pub returns-in_err-job-clause-err : goal.returns-in_err-job-clause-err
returns-in_err-job-clause-err c =
    ask_fault c.args.self.now c.args.user.now c.args.scenario.now c.from_residual.result c.in_err-job.field-0.0 c.from_residual.ensures
    (subst (λ (s : State). IsAskTrouble s c.args.user.now c.args.scenario.now c.in_err-job.field-0.0) c.self.view_is c.in_err-job.ensures.err)

pub returns-clause-ok : goal.returns-clause-ok
returns-clause-ok c =
    subst (λ (s : State). IsAsked s c.args.user.now c.args.scenario.now c.args.wanted c.in_ok-job.job) (c.self.view_is ∙ sym (state_back c.args.self.now)) c.in_ok-job.ensures.ok
