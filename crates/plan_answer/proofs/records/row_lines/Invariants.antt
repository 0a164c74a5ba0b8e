use Rattle.plan_answer.proofs.Shown.{ShownRows}
use Rattle.plan_answer.proofs.records.row_lines.Given as goal

abbrev pub invariant-loop-key : goal.invariant-loop-key
invariant-loop-key l = ShownRows l.cell l.key-iterator l.lines
