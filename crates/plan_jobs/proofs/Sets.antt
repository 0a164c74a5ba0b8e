-- Sets of cell names in a tree.
use Rattle.std.proofs.Common.{◌≡◌, List, [], ◌∷◌, refl, sym, ◌∙◌, ap, Bool, true, false, cond, ◌&&◌, ◌||◌}
use Rattle.std.proofs.lemmas.Map.Keys.{sorted_head, sorted_tail}
use Rattle.std.specs.List.{list_any, list_all, AllByRecursion}
use Rattle.std.specs.List.Sorted.{IsStrictlySortedBy}
use Rattle.std.specs.Ordering.{is_lt, is_eq}
use Rattle.std.specs.declared.cmp.Ordering.TheVariants.{Less}
use Rattle.plan_schema.specs.declared.change.CellName.{CellName}
use Rattle.plan_schema.specs.Cell.{cell_cmp}
use Rattle.record_versions.proofs.Orders.{cell_derived, same_cell_order, same_cell_orders}
use Rattle.plan_jobs.specs.Names.{has_name, are_ordered}

-- a tree looks a name up in its own order
pub has_derived : (names : List CellName) (name : CellName) → list_any (λ other. is_eq (cell_derived name other)) names ≡ has_name names name
has_derived names name = λ i. list_any (λ other. is_eq (same_cell_orders i name other)) names

pub either_way : (b x : Bool) → cond b true x ≡ (b || x)
either_way true x = refl
either_way false x = refl

-- and keeps its names in it
pub ordered_keys : (names : List CellName) → IsStrictlySortedBy cell_derived names → are_ordered names ≡ true
ordered_keys [] h = refl
ordered_keys (name ∷ names) h = λ i. each names (sorted_head cell_derived name names h) i && ordered_keys names (sorted_tail cell_derived name names h) i
  where
    each : (others : List CellName) → AllByRecursion (λ other. cell_derived name other ≡ Less) others → list_all (λ other. is_lt (cell_cmp name other)) others ≡ true
    each [] h = refl
    each (other ∷ others) h = λ i. (ap is_lt (sym (same_cell_order name other) ∙ h.0)) i && each others h.1 i
