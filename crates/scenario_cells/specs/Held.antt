-- What the memory of a scenario shows: its ids are those of cells in a store, and its contents are made of these cells.
use Rattle.std.specs.Prelude.{◌≡◌, ◌≢◌, ℕ, Bool, true, false, if◌then◌else◌, [], fold, length, Option, Some, None, unwrap_or}
use Rattle.std.specs.FinMap.{is_sorted}
use Rattle.plan_schema.specs.declared.change.CellName.{CellName}
use Rattle.plan_schema.specs.Key.{key_cmp}
use Rattle.plan_schema.specs.Contents.{Contents}
use Rattle.plan_schema.specs.Base.{part_count}
use Rattle.scenario_rules.specs.World.{OwnChanges, Scenario, laid_over, contents_of}
use Rattle.scenario_rules.specs.Steps.{joined, all_put}
use Rattle.record_versions.specs.declared.version.VersionId.{VersionId}
use Rattle.record_versions.specs.Versions.{IdList, CellList, id_at, are_ordered_ids, cell_at}
use Rattle.version_rules.specs.Ids.{ScenarioIds, after_changes}
use Rattle.version_rules.specs.Meaning.{Meaning, AreMeant}
use Rattle.scenario_cells.specs.declared.held.Held.{Held}

-- the rows of a cell by its id: none where it has no id
abbrev pub rows_of_id : Meaning → Option VersionId → Contents
rows_of_id m None = []
rows_of_id m (Some id) = unwrap_or (m id) []

abbrev pub rows_in : Meaning → IdList → CellName → Contents
rows_in m ids cell = rows_of_id m (id_at ids cell)

-- the rows of all cells
abbrev pub contents_by : Meaning → IdList → Contents
contents_by m ids = fold (λ c entry. laid_over c (all_put (rows_of_id m (Some entry.1)))) [] ids

-- the scenario that is held
abbrev pub scenario_by : Meaning → Held → Scenario
scenario_by m h = record { parent = h.parent; owner = h.owner; private = h.private; base = contents_by m h.base; own = h.own }

-- the ids of a scenario's base and of its contents, as they are listed
pub record ListedIds : Type 0 where
  pub base : IdList
  pub contents : IdList

abbrev pub listed : Held → ListedIds
listed h = record { base = h.base; contents = h.ids }

abbrev pub cell_ids : ListedIds → ScenarioIds
cell_ids ids = record { base = id_at ids.base; contents = id_at ids.contents }

-- the ids are those of the cells of what is held, and its parts and rows are counted
pub record IsHeld (m : Meaning) (h : Held) : Type 0 where
  pub base_ordered : are_ordered_ids h.base ≡ true
  pub ids_ordered : are_ordered_ids h.ids ≡ true
  pub own_ordered : is_sorted key_cmp h.own ≡ true
  pub base : AreMeant m (contents_by m h.base) (id_at h.base)
  pub contents : AreMeant m (contents_of (scenario_by m h)) (id_at h.ids)
  pub parts : h.parts ≡ part_count (contents_of (scenario_by m h))
  pub records : h.records ≡ length (contents_of (scenario_by m h))

-- the cells of ids of other entries are as before
abbrev pub KeepsOlder : ℕ → CellList → CellList → Type 0
KeepsOlder point old new = (id : VersionId) → id.point ≢ point → cell_at new id ≡ cell_at old id

-- the root has no own changes; the base of any other has ids of other entries than this one
pub record IsReady (point : ℕ) (root : Bool) (h : Held) : Type 0 where
  pub rooted : root ≡ true → h.own ≡ []
  pub older : root ≡ false → (cell : CellName) (id : VersionId) → id_at h.base cell ≡ Some id → id.point ≢ point

-- a scenario after changes: the root in its base, any other among its own
abbrev pub changed_by : Bool → Scenario → OwnChanges → Scenario
changed_by root x later = if root then record x { base = laid_over x.base later } else record x { own = joined x.own later }

-- what is held after changes
pub record IsChanged (point : ℕ) (root : Bool) (later : OwnChanges) (m m' : Meaning) (h new : Held) : Type 0 where
  pub held : IsHeld m' new
  pub scenario : scenario_by m' new ≡ changed_by root (scenario_by m h) later
  pub contents : (cell : CellName) → id_at new.ids cell ≡ after_changes point (laid_over (contents_of (scenario_by m h)) later) later (id_at h.ids) cell
  pub base : (cell : CellName) → id_at new.base cell ≡ (if root then id_at new.ids cell else id_at h.base cell)
