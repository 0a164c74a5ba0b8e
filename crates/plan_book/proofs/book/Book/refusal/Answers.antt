use Rattle.std.proofs.Common.{◌∙◌, ap}
use Rattle.plan_core.specs.State.{State}
use Rattle.plan_core.specs.Changes.{refusal_of}
use Rattle.plan_book.proofs.book.Book.refusal.Goals as goal

pub returns : goal.returns
unfolding refusal_of
returns c = c.refusal.ensures ∙ ap (λ (s : State). refusal_of s c.args.user.now c.args.change.now) c.self.view_is
