use Rattle.std.proofs.Common.{◌≡◌, take, drop, map}
use Rattle.planning_rules.specs.Shortages.{shortage}
use Rattle.planning_rules.specs.BestLots.{needs_after, needs}
use Rattle.lot_optimal.proofs.needs.fill_needs.Given as goal

abbrev pub invariant-loop-day : goal.invariant-loop-day
invariant-loop-day l = record {
  rest : drop l.day (needs (map shortage l.short)) ≡ needs_after l.most (drop l.day (map shortage l.short));
  done : take l.day l.wants ≡ take l.day (needs (map shortage l.short));
}
