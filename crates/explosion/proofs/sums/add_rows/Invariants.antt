use Rattle.std.proofs.Common.{length}
use Rattle.explosion.proofs.Totals.{AddedRows}
use Rattle.explosion.proofs.sums.add_rows.Given as goal

abbrev pub invariant-loop-key : goal.invariant-loop-key
invariant-loop-key l = AddedRows l.start (length l.initial.sums) l.releases l.cell l.key-iterator l.next l.sums
