use Rattle.std.proofs.Common.{◌≡◌, take}
use Rattle.std.specs.List.{filter_map}
use Rattle.record_versions.specs.Shown.{cells_of}
use Rattle.walk_rules.specs.Cells.{records}
use Rattle.walk_names.specs.Bills.{bill_pair}
use Rattle.walk_names.proofs.bills.all_bills.Given as goal

abbrev pub invariant-loop-id : goal.invariant-loop-id
invariant-loop-id l = l.bills.items ≡ filter_map bill_pair (records (cells_of (take l._id-index l.cells)))
