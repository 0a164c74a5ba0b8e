-- Ids of cells after one cell has changed.
use Rattle.std.specs.Prelude.{◌≡◌, ℕ, ◌+◌, Bool, if◌then◌else◌, [], ◌∷◌, Option}
use Rattle.plan_schema.specs.declared.key.Key.{Key}
use Rattle.plan_schema.specs.declared.key.Record.{Record}
use Rattle.plan_schema.specs.Key.{cell_of}
use Rattle.scenario_rules.specs.World.{changed}
use Rattle.scenario_cells.specs.Held.{rows_in}
use Rattle.plan_schema.specs.Contents.{Contents}
use Rattle.record_versions.specs.declared.version.VersionId.{VersionId}
use Rattle.record_versions.specs.Versions.{IdList, CellList, with_id, without_id, cell_at, with_cell}

-- the ids with a new one for a cell with these rows: none where it has no row
abbrev pub renewed_ids : IdList → VersionId → Contents → IdList
renewed_ids ids id [] = without_id ids id.cell
renewed_ids ids id (row ∷ rows) = with_id ids id.cell id

-- cells with those of a new id: none where it has no row
abbrev pub store_with : CellList → VersionId → Contents → CellList
store_with cells id [] = cells
store_with cells id (row ∷ rows) = with_cell cells id (row ∷ rows)

-- the id of a key's cell, where an entry gives it
abbrev pub new_id : ℕ → Key → VersionId
new_id point key = record { point = point; cell = cell_of key }

-- the rows of a key's cell after a change
abbrev pub new_rows : CellList → IdList → Key → Option Record → Contents
new_rows cells ids key value = changed (rows_in (cell_at cells) ids (cell_of key)) key value

-- a count of things, where one may come and one may go
abbrev pub IsRecounted : ℕ → Bool → Bool → ℕ → Type 0
IsRecounted count before after new = new + (if before then 1 else 0) ≡ count + (if after then 1 else 0)
