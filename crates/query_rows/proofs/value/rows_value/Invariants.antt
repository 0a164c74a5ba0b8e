use Rattle.query_rows.proofs.Values.{SummedRows}
use Rattle.query_rows.proofs.value.rows_value.Given as goal

abbrev pub invariant-loop-key : goal.invariant-loop-key
invariant-loop-key l = SummedRows l.column l.cell l.key-iterator l.sum
