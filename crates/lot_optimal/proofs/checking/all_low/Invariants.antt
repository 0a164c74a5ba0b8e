use Rattle.std.proofs.Common.{◌≡◌, drop}
use Rattle.lot_optimal.specs.Costs.{are_low}
use Rattle.lot_optimal.proofs.checking.all_low.Given as goal

abbrev pub invariant-loop-at : goal.invariant-loop-at
invariant-loop-at l = are_low l.setup l.hold l.rows ≡ are_low l.setup l.hold (drop l.at l.rows)
