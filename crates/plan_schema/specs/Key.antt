-- The order of keys.
use Rattle.std.specs.Prelude.{ℕ, Bool, List, [], ◌∷◌}
use Rattle.std.specs.Ordering.{nat_cmp, ordering_then, is_eq}
use Rattle.std.specs.Cmp.Lexicographic.{slice_cmp}
use Rattle.std.specs.declared.cmp.Ordering.{Ordering}
use Rattle.plan_schema.specs.declared.key.Key.{Key}
use Rattle.plan_schema.specs.declared.key.Key.TheVariants.{Plan, Cal, Holiday, Part, Stock, Demand, Receipt, Bill}
use Rattle.plan_schema.specs.declared.change.CellName.{CellName}
use Rattle.plan_schema.specs.declared.change.CellName.TheVariants as cells

-- names by their bytes
abbrev pub name_cmp : List ℕ → List ℕ → Ordering
name_cmp a b = slice_cmp nat_cmp a b

-- two names are one
abbrev pub name_eq : List ℕ → List ℕ → Bool
name_eq a b = is_eq (name_cmp a b)

-- the place of a key's table in the order of tables
abbrev pub table : Key → ℕ
table Plan = 0
table (Cal name) = 1
table (Holiday name day) = 2
table (Part name) = 3
table (Stock part) = 4
table (Demand part order) = 5
table (Receipt part order) = 6
table (Bill parent component) = 7

-- a key's fields from left to right, a day as its one number
abbrev pub fields : Key → List (List ℕ)
fields Plan = []
fields (Cal name) = name ∷ []
fields (Holiday name day) = name ∷ (day ∷ []) ∷ []
fields (Part name) = name ∷ []
fields (Stock part) = part ∷ []
fields (Demand part order) = part ∷ order ∷ []
fields (Receipt part order) = part ∷ order ∷ []
fields (Bill parent component) = parent ∷ component ∷ []

-- keys are ordered by table, and then field by field
abbrev pub key_cmp : Key → Key → Ordering
key_cmp a b = ordering_then (nat_cmp (table a) (table b)) (slice_cmp name_cmp (fields a) (fields b))

-- two keys are one
abbrev pub key_eq : Key → Key → Bool
key_eq a b = is_eq (key_cmp a b)

-- the cell that a key belongs to: the plan's, a calendar's or a part's; a bill belongs to its component
abbrev pub cell_of : Key → CellName
cell_of Plan = cells.Plan
cell_of (Cal name) = cells.Cal name
cell_of (Holiday name day) = cells.Cal name
cell_of (Part name) = cells.Part name
cell_of (Stock part) = cells.Part part
cell_of (Demand part order) = cells.Part part
cell_of (Receipt part order) = cells.Part part
cell_of (Bill parent component) = cells.Part component
