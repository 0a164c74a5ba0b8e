use Rattle.std.proofs.Common.{◌≡◌, ◌++◌}
use Rattle.std.specs.List.{filter_map}
use Rattle.query_rules.specs.Queries.{part_in}
use Rattle.walk_names.proofs.asked.add_parts.Given as goal

abbrev pub invariant-loop-key : goal.invariant-loop-key
invariant-loop-key l = l.names.items ++ filter_map part_in l.key-iterator ≡ l.initial.names.items ++ filter_map part_in l.cell
