use Rattle.std.proofs.Common.{◌≡◌, ◌≤◌, length}
use Rattle.lot_optimal.specs.Potentials.{AreToldFrom}
use Rattle.lot_optimal.proofs.potentials.fill_potentials.Given as goal

abbrev pub invariant-loop-day : goal.invariant-loop-day
invariant-loop-day l = record {
  within : l.day ≤ length l.wants;
  whole : length l.potentials ≡ length l.wants;
  told : AreToldFrom l.day l.setup l.hold l.wants l.potentials;
}

abbrev pub decreases-loop-day : goal.decreases-loop-day
decreases-loop-day l = l.day
