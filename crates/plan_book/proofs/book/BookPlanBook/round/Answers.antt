use Rattle.std.proofs.Common.{◌∙◌, sym, subst}
use Rattle.walk_rules.specs.Cells.{Stands}
use Rattle.plan_core.specs.State.{State, meaning_of}
use Rattle.plan_book.proofs.Told.{state_back}
use Rattle.plan_book.proofs.book.BookPlanBook.round.Goals as goal

pub round-requires-clause-stands : goal.round-requires-clause-stands
round-requires-clause-stands c = subst (λ (s : State). Stands (meaning_of s) c.args.walk.now.job.cells) (state_back c.args.self.now ∙ sym c.self.view_is) c.requires.stands
