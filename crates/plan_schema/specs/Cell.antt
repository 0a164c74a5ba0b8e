-- The order of cell names.
use Rattle.std.specs.Prelude.{ℕ, Bool, List, []}
use Rattle.std.specs.Ordering.{nat_cmp, ordering_then, is_eq}
use Rattle.std.specs.declared.cmp.Ordering.{Ordering}
use Rattle.plan_schema.specs.declared.change.CellName.{CellName}
use Rattle.plan_schema.specs.declared.change.CellName.TheVariants.{Plan, Cal, Part}
use Rattle.plan_schema.specs.Key.{name_cmp}

-- the plan's cell comes first, then those of the calendars, then those of the parts
abbrev pub kind : CellName → ℕ
kind Plan = 0
kind (Cal name) = 1
kind (Part name) = 2

abbrev pub cell_name : CellName → List ℕ
cell_name Plan = []
cell_name (Cal name) = name
cell_name (Part name) = name

-- cell names are ordered by kind, and then by name
abbrev pub cell_cmp : CellName → CellName → Ordering
cell_cmp a b = ordering_then (nat_cmp (kind a) (kind b)) (name_cmp (cell_name a) (cell_name b))

-- two cell names are one
abbrev pub cell_eq : CellName → CellName → Bool
cell_eq a b = is_eq (cell_cmp a b)
