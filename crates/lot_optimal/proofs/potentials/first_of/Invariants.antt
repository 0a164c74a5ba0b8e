use Rattle.std.proofs.Common.{◌≤◌, length}
use Rattle.lot_optimal.proofs.Backward.{IsTold}
use Rattle.lot_optimal.proofs.potentials.first_of.Given as goal

abbrev pub invariant-loop-day : goal.invariant-loop-day
invariant-loop-day l = record {
  some : 1 ≤ l.day;
  within : l.day ≤ length l.wants;
  told : IsTold l.setup l.hold l.wants l.day l.first.cost l.first.amount;
}

abbrev pub decreases-loop-day : goal.decreases-loop-day
decreases-loop-day l = l.day
