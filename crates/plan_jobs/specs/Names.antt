-- Sets of cell names.
use Rattle.std.specs.Prelude.{◌≡◌, Bool, true, ◌&&◌, ◌||◌, List, [], ◌∷◌}
use Rattle.std.specs.List.{list_any, list_all}
use Rattle.std.specs.Ordering.{is_lt}
use Rattle.plan_schema.specs.declared.change.CellName.{CellName}
use Rattle.plan_schema.specs.Cell.{cell_cmp, cell_eq}

-- a name is among some
abbrev pub has_name : List CellName → CellName → Bool
has_name names name = list_any (cell_eq name) names

-- names in their order, each once
abbrev pub are_ordered : List CellName → Bool
are_ordered [] = true
are_ordered (name ∷ names) = list_all (λ other. is_lt (cell_cmp name other)) names && are_ordered names

-- names with one more among them
abbrev pub IsWith : List CellName → CellName → List CellName → Type 0
IsWith old name new = (other : CellName) → has_name new other ≡ (cell_eq name other || has_name old other)
