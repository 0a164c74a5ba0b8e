use Rattle.std.proofs.Common.{◌≡◌, ◌+◌, ◌*◌, ◌≤◌, drop}
use Rattle.lot_optimal.specs.Costs.{rows_cost}
use Rattle.lot_optimal.proofs.checking.cost_of.Given as goal

abbrev pub invariant-loop-row : goal.invariant-loop-row
invariant-loop-row l = record {
  so_far : rows_cost l.setup l.hold 0 l.rows ≡ l.cost + rows_cost l.setup l.hold l.last (drop l.row-index l.rows);
  small : l.cost ≤ l.row-index * 1300000000000000000000000000000;
}
