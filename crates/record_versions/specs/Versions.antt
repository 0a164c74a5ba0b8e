-- Ids of cells, and the cells that they are the ids of.
use Rattle.std.specs.Prelude.{Bool, List, Option, filter}
use Rattle.std.specs.List.{list_any}
use Rattle.std.specs.Ordering.{nat_cmp, ordering_then, is_eq}
use Rattle.std.specs.declared.cmp.Ordering.{Ordering}
use Rattle.std.specs.FinMap.{is_sorted}
use Rattle.std.specs.Map.{lookup, remove_entry}
use Rattle.std.specs.BTreeMap.{is_at, insert_entry}
use Rattle.plan_schema.specs.declared.change.CellName.{CellName}
use Rattle.plan_schema.specs.Cell.{cell_cmp}
use Rattle.plan_schema.specs.Contents.{Contents}
use Rattle.record_versions.specs.declared.version.VersionId.{VersionId}

-- ids of cells, in the order of the cells' names, one for each cell
abbrev pub IdList : Type 0
IdList = List (CellName × VersionId)

-- cells in their order, each once
abbrev pub are_ordered_ids : IdList → Bool
are_ordered_ids ids = is_sorted cell_cmp ids

-- the id of a cell
abbrev pub id_at : IdList → CellName → Option VersionId
id_at ids cell = lookup (is_at (cell_cmp cell)) ids

-- the ids with this one for a cell, and with none for it
abbrev pub with_id : IdList → CellName → VersionId → IdList
with_id ids cell id = insert_entry cell_cmp ids cell id

abbrev pub without_id : IdList → CellName → IdList
without_id ids cell = remove_entry (is_at (cell_cmp cell)) ids

-- ids are ordered by number, and then by cell
abbrev pub id_cmp : VersionId → VersionId → Ordering
id_cmp a b = ordering_then (nat_cmp a.point b.point) (cell_cmp a.cell b.cell)

-- two ids are one
abbrev pub id_eq : VersionId → VersionId → Bool
id_eq a b = is_eq (id_cmp a b)

-- cells by their ids, in the order of these, one for each id
abbrev pub CellList : Type 0
CellList = List (VersionId × Contents)

-- the cell of an id
abbrev pub cell_at : CellList → VersionId → Option Contents
cell_at cells id = lookup (is_at (id_cmp id)) cells

-- the cells with one under an id, and without the one under it
abbrev pub with_cell : CellList → VersionId → Contents → CellList
with_cell cells id rows = insert_entry id_cmp cells id rows

abbrev pub without_cell : CellList → VersionId → CellList
without_cell cells id = remove_entry (is_at (id_cmp id)) cells

-- an id is among those of a list
abbrev pub has_id : List VersionId → VersionId → Bool
has_id ids id = list_any (id_eq id) ids

-- the cells whose ids are live
abbrev pub only_live : List VersionId → CellList → CellList
only_live live cells = filter (λ entry. has_id live entry.0) cells
