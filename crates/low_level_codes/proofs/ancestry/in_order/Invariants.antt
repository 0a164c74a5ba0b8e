use Rattle.std.proofs.Common.{◌≡◌, ◌++◌}
use Rattle.low_level_codes.proofs.ancestry.in_order.Given as goal

abbrev pub invariant-loop-name : goal.invariant-loop-name
invariant-loop-name l = l.names.items ++ l.name-iterator ≡ l.found.keys
