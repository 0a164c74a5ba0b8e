-- The ids of the cells of scenarios. An id says which entry of the history gave a cell its present rows, so that cells with equal ids
-- have equal rows, whichever scenarios they are in.
use Rattle.std.specs.Prelude.{◌≡◌, ℕ, ◌<◌, suc, Bool, true, false, not, ◌&&◌, if◌then◌else◌, List, [], ◌∷◌, Option, Some, None, fold}
use Rattle.std.specs.List.{list_any}
use Rattle.plan_schema.specs.declared.name.Name.{Name}
use Rattle.plan_schema.specs.declared.change.CellName.{CellName}
use Rattle.plan_schema.specs.declared.change.Change.{Change}
use Rattle.plan_schema.specs.declared.change.Change.TheVariants as changes
use Rattle.plan_schema.specs.declared.change.Entry.{Entry}
use Rattle.plan_schema.specs.Key.{name_eq, cell_of}
use Rattle.plan_schema.specs.Cell.{cell_eq}
use Rattle.plan_schema.specs.Contents.{Contents, cell_rows}
use Rattle.scenario_rules.specs.World.{OwnChanges, World, root, is_root, begin_with, scenario, parent_of, contents_in, laid_over}
use Rattle.scenario_rules.specs.Steps.{step, with_changes, all_put}
use Rattle.record_versions.specs.declared.version.VersionId.{VersionId}
use Rattle.record_versions.specs.Versions.{id_eq}

-- the id of each cell that has one
abbrev pub CellIds : Type 0
CellIds = CellName → Option VersionId

-- a scenario's ids of its base and of its contents
pub record ScenarioIds : Type 0 where
  pub base : CellIds
  pub contents : CellIds

-- the ids of each scenario; a scenario that isn't there has none
abbrev pub WorldIds : Type 0
WorldIds = Name → ScenarioIds

-- the ids of a scenario that isn't there
abbrev pub no_ids : ScenarioIds
no_ids = record { base = λ cell. None; contents = λ cell. None }

-- the id that an entry gives to a cell with these rows: none where it has no row
abbrev pub id_for : ℕ → CellName → Contents → Option VersionId
id_for point cell [] = None
id_for point cell (row ∷ rows) = Some (record { point = point; cell = cell })

-- the id of a cell of contents, where an entry gives it
abbrev pub renewed : ℕ → Contents → CellIds
renewed point contents cell = id_for point cell (cell_rows contents cell)

-- changes are about a cell
abbrev pub are_about : OwnChanges → CellName → Bool
are_about later cell = list_any (λ change. cell_eq (cell_of change.0) cell) later

-- two ids, or their absence, are the same
abbrev pub same_id : Option VersionId → Option VersionId → Bool
same_id None None = true
same_id (Some a) (Some b) = id_eq a b
same_id _ _ = false

-- after changes: the cells that they are about have new ids
abbrev pub after_changes : ℕ → Contents → OwnChanges → CellIds → CellIds
after_changes point contents later ids cell = if are_about later cell then renewed point contents cell else ids cell

-- own changes over a parent's contents: a cell without own changes has the parent's id. One with own changes has the child's where the
-- parent's and the base's are the same, and else a new one.
abbrev pub joined_ids : ℕ → Contents → OwnChanges → CellIds → ScenarioIds → CellIds
joined_ids point contents own above child cell =
    if are_about own cell then (if same_id (above cell) (child.base cell) then child.contents cell else renewed point contents cell) else above cell

-- which cells get new ids where own changes are laid over a parent's contents
abbrev pub joins_anew : OwnChanges → CellIds → ScenarioIds → CellName → Bool
joins_anew own above child cell = are_about own cell && not (same_id (above cell) (child.base cell))

-- other ids for a scenario
abbrev pub with_ids : WorldIds → Name → ScenarioIds → WorldIds
with_ids ids s new name = if name_eq name s then new else ids name

-- new ids of the contents: the root's base has them too
abbrev pub with_contents_ids : WorldIds → Name → CellIds → WorldIds
with_contents_ids ids s new = with_ids ids s (record { base = if is_root s then new else (ids s).base; contents = new })

-- the ids after changes of a scenario
abbrev pub with_changed_ids : ℕ → World → WorldIds → Name → OwnChanges → WorldIds
with_changed_ids point w ids s later = with_contents_ids ids s (after_changes point (contents_in (with_changes w s later) s) later (ids s).contents)

-- what a scenario holds with its parent's contents for its base
abbrev pub contents_above : World → Name → Contents
contents_above w s = laid_over (contents_in w (parent_of (scenario w s))) (scenario w s).own

-- the ids of the latter
abbrev pub ids_above : ℕ → World → WorldIds → Name → CellIds
ids_above point w ids s = joined_ids point (contents_above w s) (scenario w s).own (ids (parent_of (scenario w s))).contents (ids s)

-- what a change does to the ids, where it is the entry of this number
abbrev pub step_ids : ℕ → World → WorldIds → Change → WorldIds
step_ids point w ids (changes.Put s key value) = with_changed_ids point w ids s ((key, Some value) ∷ [])
step_ids point w ids (changes.Del s key) = with_changed_ids point w ids s ((key, None) ∷ [])
step_ids point w ids (changes.Load s rows) = with_changed_ids point w ids s (all_put rows)
step_ids point w ids (changes.Branch s child) = with_ids ids child (record { base = (ids s).contents; contents = (ids s).contents })
step_ids point w ids (changes.Share s) = ids
step_ids point w ids (changes.Update s) = with_ids ids s (record { base = (ids (parent_of (scenario w s))).contents; contents = ids_above point w ids s })
step_ids point w ids (changes.Commit s) =
    let new = ids_above point w ids s in
    with_ids (with_contents_ids ids (parent_of (scenario w s)) new) s (record { base = new; contents = new })
step_ids point w ids (changes.Drop s) = with_ids ids s no_ids

-- the ids before the first change: the root's, of number 0
abbrev pub begin_ids : Contents → WorldIds
begin_ids base = with_ids (λ name. no_ids) root (record { base = renewed 0 base; contents = renewed 0 base })

-- scenarios with their ids after so many entries
pub record Versioned : Type 0 where
  pub point : ℕ
  pub world : World
  pub ids : WorldIds

-- before the first entry, and after one more
abbrev pub begin_versioned : Contents → Versioned
begin_versioned base = record { point = 0; world = begin_with base; ids = begin_ids base }

abbrev pub next_versioned : Versioned → Entry → Versioned
next_versioned v entry = record { point = suc v.point; world = step v.world entry.user entry.change; ids = step_ids (suc v.point) v.world v.ids entry.change }

-- the ids after a history of changes, from the records that the root began with
abbrev pub versioned_after : Contents → List Entry → Versioned
versioned_after base history = fold next_versioned (begin_versioned base) history

abbrev pub ids_after : Contents → List Entry → WorldIds
ids_after base history = (versioned_after base history).ids

-- the ids of one side of a scenario: of its base, or of its contents
abbrev pub side_ids : Bool → ScenarioIds → CellIds
side_ids of_base ids = if of_base then ids.base else ids.contents

-- an id is live where the base or the contents of a scenario have it
pub record IsLive (ids : WorldIds) (id : VersionId) : Type 0 where
  pub scenario : Name
  pub cell : CellName
  pub of_base : Bool
  pub has : side_ids of_base (ids scenario) cell ≡ Some id

-- the ids are of entries before this one
pub record AreOlder (point : ℕ) (ids : WorldIds) : Type 0 where
  pub base : (s : Name) (cell : CellName) (id : VersionId) → (ids s).base cell ≡ Some id → id.point < point
  pub contents : (s : Name) (cell : CellName) (id : VersionId) → (ids s).contents cell ≡ Some id → id.point < point
