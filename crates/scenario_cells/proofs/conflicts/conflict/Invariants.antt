use Rattle.std.proofs.Common.{◌≡◌}
use Rattle.std.specs.Prelude.{map}
use Rattle.plan_schema.specs.Refusals.{first_of}
use Rattle.scenario_rules.specs.World.{contents_of}
use Rattle.scenario_rules.specs.Refused.{conflict_at}
use Rattle.record_versions.specs.Versions.{cell_at}
use Rattle.scenario_cells.specs.Held.{scenario_by, contents_by}
use Rattle.scenario_cells.proofs.conflicts.conflict.Given as goal

abbrev pub invariant-loop-key : goal.invariant-loop-key
invariant-loop-key l =
    first_of (map (conflict_at (contents_of (scenario_by (cell_at l.store) l.above)) (contents_by (cell_at l.store) l.child.base)) l.child.own)
    ≡ first_of (map (conflict_at (contents_of (scenario_by (cell_at l.store) l.above)) (contents_by (cell_at l.store) l.child.base)) l.key-iterator)
