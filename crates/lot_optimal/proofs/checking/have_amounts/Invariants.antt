use Rattle.std.proofs.Common.{◌≡◌, ◌≤◌, drop, length, true}
use Rattle.lot_optimal.specs.Costs.{before_order, are_amounts}
use Rattle.lot_optimal.proofs.checking.have_amounts.Given as goal

abbrev pub invariant-loop-at : goal.invariant-loop-at
invariant-loop-at l = record {
  within : l.at ≤ length l.rows;
  before : l.before ≡ before_order (drop l.at l.rows);
  right : are_amounts (drop l.at l.rows) ≡ true;
}

abbrev pub decreases-loop-at : goal.decreases-loop-at
decreases-loop-at l = l.at
