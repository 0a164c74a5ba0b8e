use Rattle.low_level_codes.specs.Numbers.{HoldsUpTo}
use Rattle.low_level_codes.proofs.codes.with_levels.Given as goal

abbrev pub invariant-loop-at : goal.invariant-loop-at
invariant-loop-at l = HoldsUpTo l.levels l.places l.names l.at l.found.keys
