use Rattle.std.proofs.Common.{◌≡◌, take}
use Rattle.plan_core.specs.Trees.{row_lines}
use Rattle.plan_core.proofs.tree.row_lines.Given as goal

abbrev pub invariant-loop-row : goal.invariant-loop-row
invariant-loop-row l = l.lines ≡ row_lines l.user (take l.row-index l.rows)
