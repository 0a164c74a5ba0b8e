-- What ids mean after a history.
use Rattle.std.specs.Prelude.{◌≡◌, ◌≢◌, ℕ, Bool, true, zero, suc, List, [], ◌∷◌, take, Option, Some, None, slice_get}
use Rattle.plan_schema.specs.declared.name.Name.{Name}
use Rattle.plan_schema.specs.declared.change.CellName.{CellName}
use Rattle.plan_schema.specs.declared.change.Change.{Change}
use Rattle.plan_schema.specs.declared.change.Change.TheVariants as changes
use Rattle.plan_schema.specs.declared.change.Entry.{Entry}
use Rattle.plan_schema.specs.Contents.{Contents, cell_rows}
use Rattle.scenario_rules.specs.World.{World, Scenario, scenario_at, contents_of, contents_in}
use Rattle.scenario_rules.specs.Steps.{step, world_after}
use Rattle.scenario_rules.specs.Refused.{changed_scenario}
use Rattle.record_versions.specs.declared.version.VersionId.{VersionId}
use Rattle.version_rules.specs.Ids.{CellIds, ScenarioIds, WorldIds}

-- which cell each id that means one means
abbrev pub Meaning : Type 0
Meaning = VersionId → Option Contents

-- rows, where there are any
abbrev pub some_rows : Contents → Option Contents
some_rows [] = None
some_rows (row ∷ rows) = Some (row ∷ rows)

-- the contents that a change gives new ids to: those that it changes; nothing where it gives none
abbrev pub renewed_contents : World → Name → Change → Contents
renewed_contents w user (changes.Branch s child) = []
renewed_contents w user (changes.Share s) = []
renewed_contents w user (changes.Drop s) = []
renewed_contents w user change = contents_in (step w user change) (changed_scenario w change)

-- the contents that an entry gave new ids to, if there is one
abbrev pub made_by : World → Option Entry → Contents
made_by w None = []
made_by w (Some entry) = renewed_contents w entry.user entry.change

-- the contents that the entry at a place of the history gave new ids to
abbrev pub contents_at : Contents → List Entry → ℕ → Contents
contents_at base history place = made_by (world_after base (take place history)) (slice_get history place)

-- an id of number 0 means a cell of the base; one of number p a cell of the contents that entry p changed
abbrev pub meaning_after : Contents → List Entry → Meaning
meaning_after base history id = by_point id.point
  where
    by_point : ℕ → Option Contents
    by_point zero = some_rows (cell_rows base id.cell)
    by_point (suc point) = some_rows (cell_rows (contents_at base history point) id.cell)

-- rows of a cell and the cell's id: an id means these rows, and exactly a cell without rows has none
abbrev pub IsMeant : Meaning → CellName → Contents → Option VersionId → Type 0
IsMeant meaning cell rows None = rows ≡ []
IsMeant meaning cell rows (Some id) = (meaning id ≡ Some rows) × (id.cell ≡ cell) × (rows ≢ [])

-- ids are those of the cells of contents
abbrev pub AreMeant : Meaning → Contents → CellIds → Type 0
AreMeant meaning contents ids = (cell : CellName) → IsMeant meaning cell (cell_rows contents cell) (ids cell)

-- the ids of each scenario mean the cells of its base and of its contents
pub record AreScenarioMeant (meaning : Meaning) (x : Scenario) (ids : ScenarioIds) : Type 0 where
  pub base : AreMeant meaning x.base ids.base
  pub contents : AreMeant meaning (contents_of x) ids.contents

-- the ids of all scenarios do
abbrev pub AreWorldMeant : Meaning → World → WorldIds → Type 0
AreWorldMeant meaning w ids = (s : Name) (x : Scenario) → scenario_at w s ≡ Some x → AreScenarioMeant meaning x (ids s)

-- the ids mean the same by both meanings
abbrev pub Keep : Meaning → Meaning → CellIds → Type 0
Keep m m' ids = (cell : CellName) (id : VersionId) → ids cell ≡ Some id → m' id ≡ m id

-- the ids that an entry gives to some cells mean the rows that these have then
abbrev pub Give : Meaning → ℕ → Contents → (CellName → Bool) → Type 0
Give m' point contents renews = (cell : CellName) → renews cell ≡ true → cell_rows contents cell ≢ [] → m' (record { point = point; cell = cell }) ≡ Some (cell_rows contents cell)
