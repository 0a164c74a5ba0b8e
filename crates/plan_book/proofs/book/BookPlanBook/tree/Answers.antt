use Rattle.std.proofs.Common.{◌≡◌, ℕ, List, ◌∙◌, sym, subst, Result, Ok, Err, IfOk}
use Rattle.plan_schema.specs.declared.name.Name.{Name}
use Rattle.session_rules.specs.Answers.{trees}
use Rattle.plan_core.specs.State.{State, point_of, world_of}
use Rattle.plan_book.specs.Answers.{IsTree}
use Rattle.plan_book.proofs.Told.{state_back}
use Rattle.plan_book.proofs.book.BookPlanBook.tree.Goals as goal

both : {E : Type 0} (book : State) (user : Name) (r : Result (ℕ × List (List ℕ)) E) → IfOk r (λ tree. tree.0 ≡ point_of book) → IfOk r (λ tree. tree.1 ≡ trees (world_of book) user) → IfOk r (IsTree book user)
both book user (Ok tree) point lines = (point, lines)
both book user (Err e) point lines = tt

pub returns : goal.returns
returns c =
    subst (λ (s : State). IfOk c.tree.result (IsTree s c.args.user.now)) (c.self.view_is ∙ sym (state_back c.args.self.now))
    (both c.self.inside.core c.args.user.now c.tree.result c.tree.ensures.point c.tree.ensures.lines)
