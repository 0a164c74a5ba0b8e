-- What contracts see of cells and ids behind their shared memory.
use Rattle.std.specs.Prelude.{List, map}
use Rattle.std.specs.Borrow.{Bor}
use Rattle.std.specs.Arc.{arc_value}
use Rattle.std.specs.declared.sync.Arc.{Arc}
use Rattle.plan_schema.specs.declared.key.Key.{Key}
use Rattle.plan_schema.specs.declared.key.Record.{Record}
use Rattle.plan_schema.specs.declared.change.CellName.{CellName}
use Rattle.record_versions.specs.declared.version.VersionId.{VersionId}

-- a row of a cell
abbrev pub shown_row : Key × Bor Record → Key × Record
shown_row row = (row.0, row.1.now)

-- a cell and its id
abbrev pub shown_id : CellName × Bor VersionId → CellName × VersionId
shown_id entry = (entry.0, entry.1.now)

-- the cells of a store
abbrev pub cells_of : {Z : Type 0} → List (VersionId × Arc (List (Key × Record)) Z) → List (VersionId × List (Key × Record))
cells_of entries = map (λ entry. (entry.0, arc_value entry.1)) entries
