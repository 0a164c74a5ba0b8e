use Rattle.std.proofs.Common.{◌≡◌, ◌++◌, drop}
use Rattle.lot_optimal.specs.Costs.{rows_of}
use Rattle.lot_optimal.proofs.making.rows_made.Given as goal

abbrev pub invariant-loop-day : goal.invariant-loop-day
invariant-loop-day l = rows_of l.setup l.hold 0 l.wants l.planned ≡ l.rows ++ rows_of l.setup l.hold l.day (drop l.day l.wants) (drop l.day l.planned)
