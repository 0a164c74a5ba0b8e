-- The rows of cells among the records of all.
use Rattle.std.proofs.Common.{◌≡◌, List, [], ◌∷◌, ◌++◌, refl, sym, ◌∙◌, ap, subst, Bool, true, false, cond}
use Rattle.std.proofs.lemmas.Bool.{and_parts}
use Rattle.std.proofs.lemmas.List.Elements.{filter-append}
use Rattle.std.specs.Prelude.{Option, Some, None}
use Rattle.std.specs.List.{AllByRecursion}
use Rattle.std.specs.Map.{lookup}
use Rattle.std.specs.BTreeMap.{is_at}
use Rattle.std.specs.FinMap.Entries.{below_all}
use Rattle.std.specs.Ordering.{is_eq, is_lt, ordering_reverse}
use Rattle.std.specs.declared.cmp.Ordering.{Ordering}
use Rattle.std.specs.declared.cmp.Ordering.TheVariants.{Less, Equal, Greater}
use Rattle.plan_schema.specs.declared.change.CellName.{CellName}
use Rattle.plan_schema.specs.Key.{cell_of}
use Rattle.plan_schema.specs.Cell.{cell_cmp, cell_eq}
use Rattle.plan_schema.specs.Contents.{Contents, cell_rows}
use Rattle.record_versions.specs.declared.version.VersionId.{VersionId}
use Rattle.record_versions.proofs.Orders.{cell_total}
use Rattle.walk_rules.specs.Cells.{Cells, records, held, are_own_rows, are_own_cells}
use Rattle.walk_rules.specs.Rights.{AreApart}
use Rattle.walk_rules.proofs.RightLaws.{one_cell}
use Rattle.plan_jobs.specs.Jobs.{by_name, are_ascending}

-- names --------------------------------------------------------------------------------------------------------------------------

turned : (o : Ordering) → is_eq (ordering_reverse o) ≡ is_eq o
turned Less = refl
turned Equal = refl
turned Greater = refl

pub eq_turned : (a b : CellName) → cell_eq b a ≡ cell_eq a b
eq_turned a b = ap is_eq (cell_total.antisymm b a) ∙ turned (cell_cmp a b)

less_apart : (o : Ordering) → is_lt o ≡ true → is_eq o ≡ false
less_apart Less h = refl
less_apart Equal h = cc
less_apart Greater h = cc

pub below_apart : (a b : CellName) → is_lt (cell_cmp a b) ≡ true → cell_eq b a ≡ false
below_apart a b h = eq_turned a b ∙ less_apart (cell_cmp a b) h

-- cells in the order of their names ------------------------------------------------------------------------------------------------

pub held_is_lookup : (cells : Cells) (name : CellName) → held cells name ≡ lookup (is_at (cell_cmp name)) (by_name cells)
held_is_lookup [] name = refl
held_is_lookup (cell ∷ cells) name = λ i. cond (eq_turned name cell.0.cell i) (Some cell) (held_is_lookup cells name i)

-- no two have one name
pub apart : (cells : Cells) → are_ascending cells ≡ true → AreApart cells
apart [] h = tt
apart (cell ∷ cells) h =
    let two = and_parts (below_all cell_cmp cell.0.cell (by_name cells)) (are_ascending cells) h in
    (each cells two.0, apart cells two.1)
  where
    each : (others : Cells) → below_all cell_cmp cell.0.cell (by_name others) ≡ true → AllByRecursion (λ other. cell_eq other.0.cell cell.0.cell ≡ false) others
    each [] h = tt
    each (other ∷ others) h =
        let two = and_parts (is_lt (cell_cmp cell.0.cell other.0.cell)) (below_all cell_cmp cell.0.cell (by_name others)) h in
        (below_apart cell.0.cell other.0.cell two.0, each others two.1)

-- the rows of one cell among all records ---------------------------------------------------------------------------------------------

pub own_all : (rows : Contents) (name : CellName) → are_own_rows name rows ≡ true → cell_rows rows name ≡ rows
own_all [] name h = refl
own_all (row ∷ rows) name h =
    let two = and_parts (cell_eq (cell_of row.0) name) (are_own_rows name rows) h in
    λ i. cond (two.0 i) (row ∷ own_all rows name two.1 i) (own_all rows name two.1 i)

own_none : (rows : Contents) (name other : CellName) → are_own_rows name rows ≡ true → cell_eq name other ≡ false → cell_rows rows other ≡ []
own_none [] name other h e = refl
own_none (row ∷ rows) name other h e =
    let two = and_parts (cell_eq (cell_of row.0) name) (are_own_rows name rows) h in
    let not_here : cell_eq (cell_of row.0) other ≡ false = ap (λ x. cell_eq x other) (one_cell (cell_of row.0) name two.0) ∙ e in
    λ i. cond (not_here i) (row ∷ cell_rows rows other) (own_none rows name other two.1 e i)

rows_append : (xs ys : Contents) (name : CellName) → cell_rows (xs ++ ys) name ≡ cell_rows xs name ++ cell_rows ys name
rows_append xs ys name = filter-append (λ row. cell_eq (cell_of row.0) name) xs ys

pub append_none : {A : Type 0} (xs : List A) → xs ++ [] ≡ xs
append_none [] = refl
append_none (x ∷ xs) = ap (λ ys. x ∷ ys) (append_none xs)

none_of : (cells : Cells) (name : CellName) → are_own_cells cells ≡ true → AllByRecursion (λ other. cell_eq other.0.cell name ≡ false) cells → cell_rows (records cells) name ≡ []
none_of [] name own apart = refl
none_of (cell ∷ cells) name own apart =
    let two = and_parts (are_own_rows cell.0.cell cell.1) (are_own_cells cells) own in
    rows_append cell.1 (records cells) name ∙ (λ i. own_none cell.1 cell.0.cell name two.0 apart.0 i ++ none_of cells name two.1 apart.1 i)

-- the rows of what is held
abbrev pub rows_of : Option (VersionId × Contents) → Contents
rows_of None = []
rows_of (Some cell) = cell.1

-- the records of a name are those of its cell, and none where it isn't held
pub rows_held : (cells : Cells) (name : CellName) → are_own_cells cells ≡ true → AreApart cells → cell_rows (records cells) name ≡ rows_of (held cells name)
rows_held [] name own apart = refl
rows_held (cell ∷ cells) name own apart = by_cases (cell_eq cell.0.cell name) refl (rows_held cells name two.1 apart.1)
  where
    two : (are_own_rows cell.0.cell cell.1 ≡ true) × (are_own_cells cells ≡ true)
    two = and_parts (are_own_rows cell.0.cell cell.1) (are_own_cells cells) own

    by_cases : (b : Bool) → cell_eq cell.0.cell name ≡ b → cell_rows (records cells) name ≡ rows_of (held cells name)
        → cell_rows (cell.1 ++ records cells) name ≡ rows_of (cond b (Some cell) (held cells name))
    by_cases true e again =
        let named : cell.0.cell ≡ name = one_cell cell.0.cell name e in
        let mine : are_own_rows name cell.1 ≡ true = ap (λ x. are_own_rows x cell.1) (sym named) ∙ two.0 in
        let rest : cell_rows (records cells) name ≡ [] = none_of cells name two.1 (subst (λ x. AllByRecursion (λ other. cell_eq other.0.cell x ≡ false) cells) named apart.0) in
        rows_append cell.1 (records cells) name ∙ (λ i. own_all cell.1 name mine i ++ rest i) ∙ append_none cell.1
    by_cases false e again = rows_append cell.1 (records cells) name ∙ (λ i. own_none cell.1 cell.0.cell name two.0 e i ++ again i)

-- a cell that is held has its own rows
pub own_held : (cells : Cells) (name : CellName) (cell : VersionId × Contents) → are_own_cells cells ≡ true → held cells name ≡ Some cell → are_own_rows name cell.1 ≡ true
own_held [] name cell own is = absurd (let never : ⊥ = cc in never)
own_held (first ∷ cells) name cell own is = by_cases (cell_eq first.0.cell name) refl (λ o. own_held cells name cell two.1 o) is
  where
    two : (are_own_rows first.0.cell first.1 ≡ true) × (are_own_cells cells ≡ true)
    two = and_parts (are_own_rows first.0.cell first.1) (are_own_cells cells) own

    by_cases : (b : Bool) → cell_eq first.0.cell name ≡ b → (held cells name ≡ Some cell → are_own_rows name cell.1 ≡ true) → cond b (Some first) (held cells name) ≡ Some cell → are_own_rows name cell.1 ≡ true
    by_cases true e again o =
        let same : first ≡ cell = cc in
        ap (λ x. are_own_rows name x.1) (sym same) ∙ ap (λ x. are_own_rows x first.1) (sym (one_cell first.0.cell name e)) ∙ two.0
    by_cases false e again o = again o
