use Rattle.std.proofs.Common.{◌≡◌, ◌++◌, map, take}
use Rattle.std.specs.List.{filter_map}
use Rattle.planning_rules.specs.Trace.{demand_end, surplus_end}
use Rattle.record_versions.specs.Shown.{cells_of}
use Rattle.walk_rules.specs.Cells.{records}
use Rattle.full_pegging.specs.Following.{shown_share}
use Rattle.full_pegging.specs.Shares.{counted_at, shares_by}
use Rattle.full_pegging.proofs.shares.shares_in.Given as goal

abbrev pub invariant-loop-id : goal.invariant-loop-id
invariant-loop-id l = map shown_share l.shares.items ≡ shares_by (counted_at l.counts.by_key.entries) (filter_map demand_end (records (cells_of l.cells)) ++ filter_map surplus_end (records (cells_of (take l._id-index l.cells))))
