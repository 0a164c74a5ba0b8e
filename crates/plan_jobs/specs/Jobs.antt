-- What a job holds.
use Rattle.std.specs.Prelude.{◌≡◌, ◌≤◌, Bool, true, false, List, [], ◌∷◌, map, length, is_some}
use Rattle.std.specs.List.{list_all}
use Rattle.std.specs.Borrow.{Bor}
use Rattle.std.specs.FinMap.{is_sorted}
use Rattle.plan_schema.specs.declared.name.Name.{Name}
use Rattle.plan_schema.specs.declared.change.CellName.{CellName}
use Rattle.plan_schema.specs.declared.change.CellName.TheVariants as names
use Rattle.plan_schema.specs.Cell.{cell_cmp}
use Rattle.plan_schema.specs.Contents.{Contents}
use Rattle.plan_schema.specs.Sound.{are_sound_rows}
use Rattle.query_rules.specs.Queries.{parts_of}
use Rattle.record_versions.specs.declared.version.VersionId.{VersionId}
use Rattle.walk_rules.specs.Cells.{Cells, records, held, are_own_cells}
use Rattle.plan_jobs.specs.declared.job.Wanted.{Wanted}
use Rattle.plan_jobs.specs.declared.job.Wanted.TheVariants as wants

-- a cell and its version
abbrev pub shown_cell : Bor VersionId × Bor Contents → VersionId × Contents
shown_cell cell = (cell.0.now, cell.1.now)

-- cells with their names
abbrev pub by_name : Cells → List (CellName × (VersionId × Contents))
by_name cells = map (λ cell. (cell.0.cell, cell)) cells

-- they stand in the order of their names, one for each name
abbrev pub are_ascending : Cells → Bool
are_ascending cells = is_sorted cell_cmp (by_name cells)

-- a question about a plan: that of a part or of all
abbrev pub wants_plan : Wanted → Bool
wants_plan (wants.Cell name) = false
wants_plan (wants.Part name) = true
wants_plan wants.All = true

-- the names whose plans it asks for
abbrev pub asked_by : Contents → Wanted → List Name
asked_by c (wants.Cell name) = []
asked_by c (wants.Part name) = name ∷ []
asked_by c wants.All = parts_of c

abbrev pub has_rows : Contents → Bool
has_rows [] = false
has_rows (row ∷ rows) = true

-- what a job's cells are: in the order of their names, each with one row or more, all sound and of its own name, with at most so many
-- rows in all; and the plan's cell is among them where a plan is wanted
pub record IsJob (wanted : Wanted) (cells : Cells) : Type 0 where
  pub ascending : are_ascending cells ≡ true
  pub filled : list_all (λ cell. has_rows cell.1) cells ≡ true
  pub sound : list_all (λ cell. are_sound_rows cell.1) cells ≡ true
  pub own : are_own_cells cells ≡ true
  pub few : length (records cells) ≤ 200_000
  pub plan : wants_plan wanted ≡ true → is_some (held cells names.Plan) ≡ true
