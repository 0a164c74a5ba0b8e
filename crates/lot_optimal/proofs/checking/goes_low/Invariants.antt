use Rattle.std.proofs.Common.{◌≡◌, ◌+◌, ◌*◌, ◌≤◌, drop}
use Rattle.lot_optimal.specs.Costs.{is_low}
use Rattle.lot_optimal.proofs.checking.goes_low.Given as goal

abbrev pub invariant-loop-row : goal.invariant-loop-row
invariant-loop-row l = record {
  so_far : is_low l.hold l.at l.potential l.setup l.rows ≡ is_low l.hold l.at l.potential l.paid (drop l.row-index l.rows);
  small : l.paid ≤ 1000000000 + l.row-index * 1300000000000000000000000000000;
}
