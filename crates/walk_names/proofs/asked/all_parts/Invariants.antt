use Rattle.std.proofs.Common.{◌≡◌, take}
use Rattle.std.specs.List.{filter_map}
use Rattle.record_versions.specs.Shown.{cells_of}
use Rattle.walk_rules.specs.Cells.{records}
use Rattle.query_rules.specs.Queries.{part_in}
use Rattle.walk_names.proofs.asked.all_parts.Given as goal

abbrev pub invariant-loop-id : goal.invariant-loop-id
invariant-loop-id l = l.names.items ≡ filter_map part_in (records (cells_of (take l._id-index l.cells)))
