-- Which cells of a scenario a question takes along.
use Rattle.std.specs.Prelude.{◌≡◌, ◌≤◌, ◌||◌, Bool, true, false, List, [], ◌∷◌, Option, Some, None, map, filter, length, is_some, unwrap_or}
use Rattle.std.specs.List.{list_any, list_all}
use Rattle.plan_schema.specs.declared.name.Name.{Name}
use Rattle.plan_schema.specs.declared.change.CellName.{CellName}
use Rattle.plan_schema.specs.declared.change.CellName.TheVariants as names
use Rattle.plan_schema.specs.Key.{name_eq}
use Rattle.plan_schema.specs.Cell.{cell_eq}
use Rattle.plan_schema.specs.Contents.{Contents}
use Rattle.plan_schema.specs.Sound.{are_sound_rows}
use Rattle.planning_rules.specs.Refused.{in_reach}
use Rattle.record_versions.specs.declared.version.VersionId.{VersionId}
use Rattle.record_versions.specs.Versions.{IdList, CellList, id_at, are_ordered_ids, cell_at}
use Rattle.version_rules.specs.Meaning.{AreMeant}
use Rattle.walk_rules.specs.Cells.{Cells, records, are_own_cells}
use Rattle.walk_rules.specs.Steps.{calendar_in}
use Rattle.plan_jobs.specs.declared.job.Wanted.{Wanted}
use Rattle.plan_jobs.specs.declared.job.Wanted.TheVariants as wants
use Rattle.plan_jobs.specs.Jobs.{has_rows}
use Rattle.plan_jobs.specs.Names.{has_name}

-- the cell of an id: its rows are those that the store has
abbrev pub cell_by : CellList → VersionId → VersionId × Contents
cell_by store id = (id, unwrap_or (cell_at store id) [])

-- the cells of a scenario
abbrev pub cells_by : CellList → IdList → Cells
cells_by store ids = map (λ entry. cell_by store entry.1) ids

-- all its records, one cell after the other
abbrev pub records_by : CellList → IdList → Contents
records_by store ids = records (cells_by store ids)

-- ids that a job can be collected from: the plan's cell has one; each is under its own cell's name and in the store; and the cells have
-- one row or more each, all sound and of the cell, and not too many rows in all
pub record AreWholeCells (store : CellList) (ids : IdList) : Type 0 where
  pub plan : is_some (id_at ids names.Plan) ≡ true
  pub named : list_all (λ entry. cell_eq entry.1.cell entry.0) ids ≡ true
  pub stored : list_all (λ entry. is_some (cell_at store entry.1)) ids ≡ true
  pub filled : list_all (λ cell. has_rows cell.1) (cells_by store ids) ≡ true
  pub sound : list_all (λ cell. are_sound_rows cell.1) (cells_by store ids) ≡ true
  pub own : are_own_cells (cells_by store ids) ≡ true
  pub few : length (records_by store ids) ≤ 200_000

-- a part is in reach of another: it is that part, or an ancestor of it
abbrev pub is_reached : Contents → Name → Name → Bool
is_reached c part name = list_any (name_eq name) (in_reach c (part ∷ []))

abbrev pub is_calendar : Option Name → Name → Bool
is_calendar None name = false
is_calendar (Some calendar) name = name_eq calendar name

-- a part in reach of another names a calendar
abbrev pub is_calendar_reached : Contents → Name → Name → Bool
is_calendar_reached c part name = list_any (λ other. is_calendar (calendar_in c other) name) (in_reach c (part ∷ []))

-- the plan of a part depends on these cells: the plan's, those of the parts in reach, and those of the calendars that these name
abbrev pub is_needed : Contents → Name → CellName → Bool
is_needed c part names.Plan = true
is_needed c part (names.Cal name) = is_calendar_reached c part name
is_needed c part (names.Part name) = is_reached c part name

-- a cell is a part's own, or that of the calendar that it names
abbrev pub is_of_part : Contents → Name → CellName → Bool
is_of_part c part names.Plan = false
is_of_part c part (names.Cal name) = is_calendar (calendar_in c part) name
is_of_part c part (names.Part name) = name_eq part name

-- a part is visited: its cell's name, and that of the calendar that it names, are among the names that there were
abbrev pub IsVisited : Contents → Name → List CellName → List CellName → Type 0
IsVisited c part old new = (cell : CellName) → has_name new cell ≡ (is_of_part c part cell || has_name old cell)

-- a cell is wanted: it is the one asked for, or the part's plan depends on it, or all are asked for
abbrev pub is_wanted : Contents → Wanted → CellName → Bool
is_wanted c (wants.Cell name) cell = cell_eq name cell
is_wanted c (wants.Part name) cell = is_needed c name cell
is_wanted c wants.All cell = true

-- exactly the cells of a scenario that are wanted, each with its id and its rows, in their order
abbrev pub collected : CellList → IdList → Wanted → Cells
collected store ids wanted = filter (λ cell. is_wanted (records_by store ids) wanted cell.0.cell) (cells_by store ids)

abbrev pub CollectedFrom : CellList → IdList → Wanted → Cells → Type 0
CollectedFrom store ids wanted cells = cells ≡ collected store ids wanted

-- cells that were collected for a question from contents: from some store, by ids under which it has the cells of the contents
pub record IsCollected (c : Contents) (wanted : Wanted) (cells : Cells) : Type 0 where
  pub store : CellList
  pub ids : IdList
  pub whole : AreWholeCells store ids
  pub ordered : are_ordered_ids ids ≡ true
  pub meant : AreMeant (cell_at store) c (id_at ids)
  pub from : CollectedFrom store ids wanted cells
