use Rattle.std.proofs.Common.{length, ◌-◌}
use Rattle.low_level_codes.proofs.placing.first_missing.Given as goal

abbrev pub decreases-loop-at : goal.decreases-loop-at
decreases-loop-at l = length l.places - l.at
