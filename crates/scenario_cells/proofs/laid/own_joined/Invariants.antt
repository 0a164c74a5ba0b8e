use Rattle.std.proofs.Common.{◌≡◌}
use Rattle.scenario_rules.specs.Steps.{joined}
use Rattle.scenario_cells.proofs.laid.own_joined.Given as goal

abbrev pub invariant-loop-key : goal.invariant-loop-key
invariant-loop-key l = joined l.new l.key-iterator ≡ joined l.own l.later
