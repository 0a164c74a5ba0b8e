use Rattle.std.proofs.Common.{◌≡◌, ◌++◌}
use Rattle.std.specs.List.{filter_map}
use Rattle.walk_names.specs.Bills.{bill_pair}
use Rattle.walk_names.proofs.bills.add_bills.Given as goal

abbrev pub invariant-loop-key : goal.invariant-loop-key
invariant-loop-key l = l.bills.items ++ filter_map bill_pair l.key-iterator ≡ l.initial.bills.items ++ filter_map bill_pair l.cell
