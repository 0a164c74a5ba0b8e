-- What contracts see of a forest: the scenarios, the ids of their cells, and the cells that are stored.
use Rattle.std.specs.Prelude.{◌≡◌, ℕ, List, [], map, Option, Some, None}
use Rattle.std.specs.Map.{lookup}
use Rattle.std.specs.BTreeMap.{is_at}
use Rattle.plan_schema.specs.declared.name.Name.{Name}
use Rattle.plan_schema.specs.Key.{name_cmp}
use Rattle.scenario_rules.specs.World.{OwnChanges, World, scenario_at}
use Rattle.scenario_rules.specs.Steps.{step, with_changes}
use Rattle.plan_schema.specs.declared.change.Change.{Change}
use Rattle.scenario_rules.specs.Whole.{IsWhole}
use Rattle.record_versions.specs.Versions.{CellList, cell_at}
use Rattle.version_rules.specs.Ids.{ScenarioIds, WorldIds, no_ids, with_changed_ids, step_ids}
use Rattle.version_rules.specs.Meaning.{Meaning, AreWorldMeant}
use Rattle.scenario_cells.specs.declared.held.Held.{Held}
use Rattle.scenario_cells.specs.Held.{scenario_by, ListedIds, listed, cell_ids, IsHeld}

-- the scenarios, the ids of their cells by name, and the stored cells
pub record Grown : Type 0 where
  pub world : World
  pub table : List (Name × ListedIds)
  pub store : CellList

-- the ids that are listed for a scenario: none where it isn't there
abbrev pub ids_where : Option ListedIds → ScenarioIds
ids_where None = no_ids
ids_where (Some ids) = cell_ids ids

-- the ids of each scenario of a table
abbrev pub ids_of : List (Name × ListedIds) → WorldIds
ids_of table s = ids_where (lookup (is_at (name_cmp s)) table)

-- the ids of a forest
abbrev pub ids_in : Grown → WorldIds
ids_in forest = ids_of forest.table

-- the scenarios that are held, by what the ids of their cells mean
abbrev pub world_by : Meaning → List (Name × Held) → World
world_by m entries = map (λ entry. (entry.0, scenario_by m entry.1)) entries

-- the ids of the scenarios that are held
abbrev pub table_of : List (Name × Held) → List (Name × ListedIds)
table_of entries = map (λ entry. (entry.0, listed entry.1)) entries

-- what is seen of the scenarios that are held, and of a store
abbrev pub grown : List (Name × Held) → CellList → Grown
grown entries store = record { world = world_by (cell_at store) entries; table = table_of entries; store = store }

-- the world is whole, and the ids and counts of each scenario that is held are right
pub record IsForest (entries : List (Name × Held)) (store : CellList) : Type 0 where
  pub whole : IsWhole (world_by (cell_at store) entries)
  pub held : (s : Name) (h : Held) → lookup (is_at (name_cmp s)) entries ≡ Some h → IsHeld (cell_at store) h

-- the world is whole, each id means its cell, and a scenario that isn't there has no ids
pub record IsGrown (forest : Grown) : Type 0 where
  pub whole : IsWhole forest.world
  pub meant : AreWorldMeant (cell_at forest.store) forest.world (ids_in forest)
  pub gone : (s : Name) → scenario_at forest.world s ≡ None → ids_in forest s ≡ no_ids

-- what a forest is after changes to a scenario
pub record IsAfterChanges (point : ℕ) (s : Name) (later : OwnChanges) (old new : Grown) : Type 0 where
  pub world : new.world ≡ with_changes old.world s later
  pub ids : ids_in new ≡ with_changed_ids point old.world (ids_in old) s later

-- the scenarios and their ids are as before; the store may have further cells
pub record IsAsBefore (old new : Grown) : Type 0 where
  pub world : new.world ≡ old.world
  pub table : new.table ≡ old.table

-- what a forest is after a change that isn't refused (the user matters to a BRANCH alone)
pub record IsStepped (point : ℕ) (change : Change) (old new : Grown) : Type 0 where
  pub world : new.world ≡ step old.world [] change
  pub ids : ids_in new ≡ step_ids point old.world (ids_in old) change

-- the same after a change of this user
pub record IsSteppedBy (point : ℕ) (user : Name) (change : Change) (old new : Grown) : Type 0 where
  pub world : new.world ≡ step old.world user change
  pub ids : ids_in new ≡ step_ids point old.world (ids_in old) change
