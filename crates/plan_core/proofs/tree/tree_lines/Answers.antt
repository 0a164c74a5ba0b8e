use Rattle.std.proofs.Common.{◌≡◌, ◌∙◌, ap, subst, IfOk}
use Rattle.plan_core.specs.Trees.{row_lines}
use Rattle.plan_core.proofs.TreeLines.{told}
use Rattle.plan_core.proofs.tree.tree_lines.Goals as goal

pub returns : goal.returns
returns c =
    let rows = c.as_slice.ensures.value ∙ c.in_ok-rows.ensures in
    subst (λ ls. IfOk c.row_lines.result (λ lines. lines ≡ ls)) (ap (row_lines c.args.user.now) rows ∙ told c.args.user.now c.args.forest.now.world c.holds.ensures.whole.ordered) c.row_lines.ensures
