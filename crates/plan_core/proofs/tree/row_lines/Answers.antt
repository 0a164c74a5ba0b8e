use Rattle.std.proofs.Common.{◌∙◌, sym}
use Rattle.plan_core.proofs.TreeLines.{with_line, without_line}
use Rattle.plan_core.proofs.tree.row_lines.Goals.{then-allows+in_ok-push, else-allows}
use Rattle.plan_core.proofs.tree.row_lines.Goals as goal

pub loop-row-preserved : goal.loop-row-preserved
loop-row-preserved c = elim c.if-allows.branch [
  | then-allows+in_ok-push w ↦ w.lines-is ∙ w.in_ok-push.ensures.ok ∙ with_line c.args.user.now c.args.rows.now c.loop-row.row-index c.row-item.result c.row-item.result c.loop-row.lines _ c.loop-row-test.true c.row-item.is c.loop-row.invariant (sym c.allows.ensures ∙ w.if-allows.true) (w.as_slice.ensures.value ∙ w.row_line.ensures)
  | else-allows w ↦ w.lines-is ∙ without_line c.args.user.now c.args.rows.now c.loop-row.row-index c.row-item.result c.row-item.result c.loop-row.lines c.loop-row-test.true c.row-item.is c.loop-row.invariant (sym c.allows.ensures ∙ w.if-allows.false)
]
