-- Own changes of a scenario, laid over the contents of its parent one after another.
use Rattle.scenario_rules.specs.Steps.{joined}
use Rattle.std.specs.Prelude.{◌≡◌, ℕ, ◌<◌, Bool, true, false, if◌then◌else◌, [], ◌∷◌, ◌++◌, length, Option, Some, None}
use Rattle.std.specs.Map.{lookup}
use Rattle.std.specs.BTreeMap.{is_at}
use Rattle.plan_schema.specs.declared.name.Name.{Name}
use Rattle.plan_schema.specs.declared.key.Key.{Key}
use Rattle.plan_schema.specs.declared.key.Record.{Record}
use Rattle.plan_schema.specs.declared.change.CellName.{CellName}
use Rattle.plan_schema.specs.Key.{key_cmp, cell_of}
use Rattle.plan_schema.specs.Contents.{Contents, is_ordered}
use Rattle.plan_schema.specs.Base.{part_count}
use Rattle.scenario_rules.specs.World.{OwnChanges, laid_over}
use Rattle.record_versions.specs.declared.version.VersionId.{VersionId}
use Rattle.record_versions.specs.Versions.{IdList, CellList, id_at, with_id, without_id, are_ordered_ids, cell_at}
use Rattle.version_rules.specs.Ids.{CellIds, ScenarioIds, same_id, joined_ids, joins_anew}
use Rattle.version_rules.specs.Meaning.{AreMeant, Give}
use Rattle.scenario_cells.specs.declared.held.Held.{Held}
use Rattle.scenario_cells.specs.declared.laid.Laid.{Laid}
use Rattle.scenario_cells.specs.Held.{KeepsOlder}
use Rattle.scenario_cells.specs.Rows.{renewed_ids, store_with, new_id, new_rows}

-- the ids with this one for a cell, or with none
abbrev pub set_id : IdList → CellName → Option VersionId → IdList
set_id ids cell None = without_id ids cell
set_id ids cell (Some id) = with_id ids cell id

-- the ids after one own change: those of the parent, of the child's base and of the child, and those so far
abbrev pub next_ids : CellList → ℕ → IdList → IdList → IdList → IdList → Key → Option Record → IdList
next_ids cells point above base mine ids key value =
    if same_id (id_at above (cell_of key)) (id_at base (cell_of key)) then set_id ids (cell_of key) (id_at mine (cell_of key)) else renewed_ids ids (new_id point key) (new_rows cells ids key value)

abbrev pub next_cells : CellList → ℕ → IdList → IdList → IdList → Key → Option Record → CellList
next_cells cells point above base ids key value =
    if same_id (id_at above (cell_of key)) (id_at base (cell_of key)) then cells else store_with cells (new_id point key) (new_rows cells ids key value)

-- what has been laid so far over contents: their ids, and the counts
pub record IsLaid (point : ℕ) (contents : Contents) (above : CellIds) (child : ScenarioIds) (done : OwnChanges) (cells : CellList) (laid : Laid) : Type 0 where
  pub ordered : are_ordered_ids laid.ids ≡ true
  pub ids : (cell : CellName) → id_at laid.ids cell ≡ joined_ids point (laid_over contents done) done above child cell
  pub gives : Give (cell_at cells) point (laid_over contents done) (joins_anew done above child)
  pub parts : laid.parts ≡ part_count (laid_over contents done)
  pub records : laid.records ≡ length (laid_over contents done)

-- ids of entries before this one
abbrev pub AreOlderIds : ℕ → IdList → Type 0
AreOlderIds point ids = (cell : CellName) (id : VersionId) → id_at ids cell ≡ Some id → id.point < point

abbrev pub ids_of_held : Held → ScenarioIds
ids_of_held h = record { base = id_at h.base; contents = id_at h.ids }

-- one more change is laid: for each contents that the parent's ids mean in the store as it was at first
abbrev pub IsNextLaid : ℕ → Held → Held → Key → Option Record → CellList → Laid → CellList → Laid → Type 0
IsNextLaid point above child key value cells laid cells' new =
    (first : CellList) (contents : Contents) (done : OwnChanges) → is_ordered contents ≡ true → AreMeant (cell_at first) contents (id_at above.ids)
    → AreOlderIds point above.ids → KeepsOlder point first cells → lookup (is_at (key_cmp key)) done ≡ None
    → IsLaid point contents (id_at above.ids) (ids_of_held child) done cells laid → IsLaid point contents (id_at above.ids) (ids_of_held child) (done ++ (key, value) ∷ []) cells' new

-- what a parent is after a commit, by whether it is the root, and what the child is
abbrev pub given : Bool → Held → Held → Laid → Held
given root above child laid = record {
  parent = above.parent;
  owner = above.owner;
  private = above.private;
  base = if root then laid.ids else above.base;
  ids = laid.ids;
  own = if root then above.own else joined above.own child.own;
  parts = laid.parts;
  records = laid.records;
}

abbrev pub settled : Held → Laid → Held
settled child laid = record { parent = child.parent; owner = child.owner; private = child.private; base = laid.ids; ids = laid.ids; own = []; parts = laid.parts; records = laid.records }

-- a new scenario of a user, over what its parent holds
abbrev pub branched : Name → Name → Held → Held
branched user parent above =
    record { parent = Some parent; owner = Some user; private = true; base = above.ids; ids = above.ids; own = []; parts = above.parts; records = above.records }

-- a scenario that everyone may use
abbrev pub shared : Held → Held
shared h = record { parent = h.parent; owner = h.owner; private = false; base = h.base; ids = h.ids; own = h.own; parts = h.parts; records = h.records }
