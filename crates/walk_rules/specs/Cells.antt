-- The records of a job: cells that are held, each under its version.
use Rattle.std.specs.Prelude.{◌≡◌, List, [], ◌∷◌, Bool, Option, Some, None, if◌then◌else◌, flat_map, unwrap_or}
use Rattle.std.specs.List.{AllByRecursion, list_all}
use Rattle.plan_schema.specs.declared.change.CellName.{CellName}
use Rattle.plan_schema.specs.Contents.{Contents}
use Rattle.plan_schema.specs.Key.{cell_of}
use Rattle.plan_schema.specs.Cell.{cell_eq}
use Rattle.record_versions.specs.declared.version.VersionId.{VersionId}
use Rattle.version_rules.specs.Meaning.{Meaning}

-- cells, each with its version, in the order of their names
abbrev pub Cells : Type 0
Cells = List (VersionId × Contents)

-- the records of the cells
abbrev pub records : Cells → Contents
records cells = flat_map (λ cell. cell.1) cells

-- the cell of a name
abbrev pub held : Cells → CellName → Option (VersionId × Contents)
held [] name = None
held (cell ∷ cells) name = if cell_eq cell.0.cell name then Some cell else held cells name

-- its version
abbrev pub version_in : Cells → CellName → VersionId
version_in cells name = (unwrap_or (held cells name) (record { point = 0; cell = name }, [])).0

-- each row of a cell belongs to it
abbrev pub are_own_rows : CellName → Contents → Bool
are_own_rows name rows = list_all (λ row. cell_eq (cell_of row.0) name) rows

abbrev pub are_own_cells : Cells → Bool
are_own_cells cells = list_all (λ cell. are_own_rows cell.0.cell cell.1) cells

-- each cell is what its version means
abbrev pub Stands : Meaning → Cells → Type 0
Stands m cells = AllByRecursion (λ cell. m cell.0 ≡ Some cell.1) cells
