use Rattle.std.proofs.Common.{◌≡◌, ◌≤◌, drop, length}
use Rattle.lot_optimal.specs.Costs.{are_rows}
use Rattle.lot_optimal.proofs.checking.fit_needs.Given as goal

abbrev pub invariant-loop-day : goal.invariant-loop-day
invariant-loop-day l = record {
  so_far : are_rows 0 l.wants l.rows ≡ are_rows l.day (drop l.day l.wants) (drop l.next l.rows);
  within : l.next ≤ length l.rows;
}
