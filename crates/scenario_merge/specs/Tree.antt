-- The tree of scenarios, without what they hold.
use Rattle.std.specs.Prelude.{length}
use Rattle.plan_schema.specs.declared.name.Name.{Name}
use Rattle.scenario_rules.specs.World.{Scenario}
use Rattle.scenario_merge.specs.declared.forest.TreeRow.{TreeRow}

-- the row of a scenario
abbrev pub tree_row : Name × Scenario → TreeRow
tree_row entry = record { name = entry.0; parent = entry.1.parent; owner = entry.1.owner; private = entry.1.private; own = length entry.1.own }
