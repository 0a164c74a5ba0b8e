use Rattle.low_level_codes.specs.Graphs.{shown}
use Rattle.low_level_codes.specs.Owns.{NoneOwn}
use Rattle.low_level_codes.proofs.codes.first_own.Given as goal

abbrev pub invariant-loop-at : goal.invariant-loop-at
invariant-loop-at l = NoneOwn (shown l.ups) l.levels l.heights l.places l.at
