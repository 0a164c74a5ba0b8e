-- Where a binary search among cells in the order of their names ends.
use Rattle.std.proofs.Common.{◌≡◌, ℕ, zero, suc, ◌+◌, ◌<◌, List, [], ◌∷◌, length, get_or, Result, Ok, Err, refl, sym, ◌∙◌, ap, subst, arith, inl, inr, true, false, cond}
use Rattle.std.proofs.lemmas.Bool.{and_parts, cases_lt}
use Rattle.std.proofs.lemmas.List.Sorted.{searchable_from_sorted}
use Rattle.std.specs.Prelude.{Some, None, slice_get}
use Rattle.std.specs.Arc.{arc_value}
use Rattle.std.specs.declared.sync.Arc.{Arc}
use Rattle.std.specs.declared.alloc.Global.{Global}
use Rattle.std.specs.FinMap.Entries.{below_all}
use Rattle.std.specs.Ordering.{is_eq, is_lt, ordering_index, ordering_reverse}
use Rattle.std.specs.declared.cmp.Ordering.{Ordering}
use Rattle.std.specs.declared.cmp.Ordering.TheVariants.{Less, Equal, Greater}
use Rattle.std.specs.List.Sorted.{IsNonDecreasingBy, IsSearchInRange, IsBinarySearchResult}
use Rattle.std.specs.Option.{MatchOption}
use Rattle.std.specs.Result.{result_ok}
use Rattle.plan_schema.specs.declared.change.CellName.{CellName}
use Rattle.plan_schema.specs.Cell.{cell_cmp, cell_eq}
use Rattle.plan_schema.specs.Contents.{Contents}
use Rattle.record_versions.specs.declared.version.VersionId.{VersionId}
use Rattle.record_versions.specs.Shown.{cells_of}
use Rattle.record_versions.proofs.Orders.{cell_total, cell_exact}
use Rattle.walk_rules.specs.Cells.{held}
use Rattle.plan_jobs.specs.Jobs.{by_name, are_ascending}

abbrev Shared : Type 0
Shared = VersionId × Arc Contents Global

less_back : (o : Ordering) → is_lt o ≡ true → is_lt (ordering_reverse o) ≡ false
less_back Less h = refl
less_back Equal h = cc
less_back Greater h = cc

less_apart : (o : Ordering) → is_lt o ≡ true → is_eq o ≡ false
less_apart Less h = refl
less_apart Equal h = cc
less_apart Greater h = cc

module _ (x : CellName) where
  below_at : (es : List Shared) (i : ℕ) (d : Shared) → below_all cell_cmp x (by_name (cells_of es)) ≡ true → i < length es → is_lt (cell_cmp x (get_or es i d).0.cell) ≡ true
  below_at [] i d h l = absurd (omega arith)
  below_at (e ∷ es) zero d h l = (and_parts (is_lt (cell_cmp x e.0.cell)) (below_all cell_cmp x (by_name (cells_of es))) h).0
  below_at (e ∷ es) (suc i) d h l = below_at es i d (and_parts (is_lt (cell_cmp x e.0.cell)) (below_all cell_cmp x (by_name (cells_of es))) h).1 (omega arith)

-- neighbours stand in their order
neighbours : (es : List Shared) → are_ascending (cells_of es) ≡ true → (k : ℕ) (d : Shared) → suc k < length es → is_lt (cell_cmp (get_or es (suc k) d).0.cell (get_or es k d).0.cell) ≡ false
neighbours [] h k d l = absurd (omega arith)
neighbours (e ∷ es) h zero d l =
    let two = and_parts (below_all cell_cmp e.0.cell (by_name (cells_of es))) (are_ascending (cells_of es)) h in
    ap is_lt (cell_total.antisymm (get_or es 0 d).0.cell e.0.cell) ∙ less_back (cell_cmp e.0.cell (get_or es 0 d).0.cell) (below_at e.0.cell es 0 d two.0 (omega arith))
neighbours (e ∷ es) h (suc k) d l = neighbours es (and_parts (below_all cell_cmp e.0.cell (by_name (cells_of es))) (are_ascending (cells_of es)) h).1 k d (omega arith)

pub rises : (es : List Shared) (name : CellName) → are_ascending (cells_of es) ≡ true → IsNonDecreasingBy (λ e. ordering_index (cell_cmp e.0.cell name)) es
rises es name h = searchable_from_sorted cell_total (λ e. e.0.cell) es name (λ k d low high.
    let one : suc k ≡ k + 1 = omega arith in
    subst (λ j. is_lt (cell_cmp (get_or es j d).0.cell (get_or es k d).0.cell) ≡ false) one (neighbours es h k d (omega arith)))

-- a cell whose name is the one sought is the one that is held
pub found_there : (es : List Shared) (name : CellName) (i : ℕ) → are_ascending (cells_of es) ≡ true → i < length es → ((d : Shared) → cell_cmp (get_or es i d).0.cell name ≡ Equal)
    → slice_get (cells_of es) i ≡ held (cells_of es) name
found_there [] name i h l same = absurd (omega arith)
found_there (e ∷ es) name zero h l same = λ i. cond (is_eq (sym (same e) i)) (Some (e.0, arc_value e.1)) (held (cells_of es) name)
found_there (e ∷ es) name (suc i) h l same =
    let two = and_parts (below_all cell_cmp e.0.cell (by_name (cells_of es))) (are_ascending (cells_of es)) h in
    let less = below_at e.0.cell es i e two.0 (omega arith) in
    let there : (get_or es i e).0.cell ≡ name = cell_exact (get_or es i e).0.cell name (same e) in
    let apart : cell_eq e.0.cell name ≡ false = ap (λ n. cell_eq e.0.cell n) (sym there) ∙ less_apart (cell_cmp e.0.cell (get_or es i e).0.cell) less in
    found_there es name i two.1 (omega arith) same ∙ λ j. cond (sym apart j) (Some (e.0, arc_value e.1)) (held (cells_of es) name)

is_equal : (o : Ordering) → is_eq o ≡ true → o ≡ Equal
is_equal Less h = cc
is_equal Equal h = refl
is_equal Greater h = cc

-- a cell that stands at a place and has the name sought is the one that is held
pub found_at : (es : List Shared) (name : CellName) (i : ℕ) (e : Shared) → are_ascending (cells_of es) ≡ true → i < length es → ((d : Shared) → e ≡ get_or es i d) → is_eq (cell_cmp e.0.cell name) ≡ true
    → slice_get (cells_of es) i ≡ held (cells_of es) name
found_at es name i e h within at same =
    found_there es name i h within (λ d. ap (λ (x : Shared). cell_cmp x.0.cell name) (sym (at d)) ∙ is_equal (cell_cmp e.0.cell name) same)

-- where no cell has the name, none is held
pub found_nowhere : (es : List Shared) (name : CellName) → ((j : ℕ) (d : Shared) → j < length es → is_eq (cell_cmp (get_or es j d).0.cell name) ≡ false) → held (cells_of es) name ≡ None
found_nowhere [] name h = refl
found_nowhere (e ∷ es) name h = (λ i. cond (h 0 e (omega arith) i) (Some (e.0, arc_value e.1)) (held (cells_of es) name)) ∙ found_nowhere es name (λ j d l. h (suc j) d (omega arith))

not_equal_less : (o : Ordering) → o ≡ Less → is_eq o ≡ false
not_equal_less o h = ap is_eq h

not_equal_greater : (o : Ordering) → o ≡ Greater → is_eq o ≡ false
not_equal_greater o h = ap is_eq h

pub search_ends : (es : List Shared) (name : CellName) → are_ascending (cells_of es) ≡ true → (r : Result ℕ ℕ) → IsSearchInRange r (length es) → IsBinarySearchResult (λ e. cell_cmp e.0.cell name) es r
    → MatchOption (result_ok r) (held (cells_of es) name ≡ None) (λ place. slice_get (cells_of es) place ≡ held (cells_of es) name)
search_ends es name h (Ok i) l same = found_there es name i h l same
search_ends es name h (Err i) l parted =
    let parts = parted (rises es name h) in
    found_nowhere es name (λ j d less. elim (cases_lt j i) [
      | inl before ↦ not_equal_less (cell_cmp (get_or es j d).0.cell name) (parts.0 j d (omega arith) before)
      | inr after ↦ not_equal_greater (cell_cmp (get_or es j d).0.cell name) (parts.1 j d after less)
    ])
