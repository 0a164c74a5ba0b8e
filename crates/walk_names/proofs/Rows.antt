-- The rows of cells, one cell after another.
use Rattle.std.proofs.Common.{◌≡◌, ℕ, zero, suc, ◌+◌, ◌<◌, length, get_or, arith, List, [], ◌∷◌, ◌++◌, take, refl, sym, ◌∙◌, ap, append_assoc, add-one}
use Rattle.std.proofs.lemmas.List.Elements.{filter_map-append}
use Rattle.std.specs.Prelude.{Option, Some, slice_get, filter_map}
use Rattle.std.specs.declared.sync.Arc.{Arc}
use Rattle.plan_schema.specs.declared.key.Key.{Key}
use Rattle.plan_schema.specs.declared.key.Record.{Record}
use Rattle.plan_schema.specs.Contents.{Contents}
use Rattle.record_versions.specs.declared.version.VersionId.{VersionId}
use Rattle.record_versions.specs.Shown.{cells_of}
use Rattle.walk_rules.specs.Cells.{records}

module _ {Z B : Type 0} (f : (Key × Record) → Option B) where
  more : (es : List (VersionId × Arc Contents Z)) (i : ℕ) (e : VersionId × Arc Contents Z) → slice_get es i ≡ Some e
      → filter_map f (records (cells_of (take (suc i) es))) ≡ filter_map f (records (cells_of (take i es))) ++ filter_map f e.1.value
  more [] i e is = absurd (let never : ⊥ = cc in never)
  more (x ∷ xs) zero e is =
      let same : x ≡ e = cc in
      filter_map-append f x.1.value [] ∙ append_none (filter_map f x.1.value) ∙ ap (λ (y : VersionId × Arc Contents Z). filter_map f y.1.value) same
    where
      append_none : (ys : List B) → ys ++ [] ≡ ys
      append_none [] = refl
      append_none (y ∷ ys) = ap (λ zs. y ∷ zs) (append_none ys)
  more (x ∷ xs) (suc i) e is =
      filter_map-append f x.1.value (records (cells_of (take (suc i) xs))) ∙ ap (λ ys. filter_map f x.1.value ++ ys) (more xs i e is)
      ∙ sym (append_assoc (filter_map f x.1.value) (filter_map f (records (cells_of (take i xs)))) (filter_map f e.1.value))
      ∙ ap (λ ys. ys ++ filter_map f e.1.value) (sym (filter_map-append f x.1.value (records (cells_of (take i xs)))))

  pub one_cell_more : (es : List (VersionId × Arc Contents Z)) (i : ℕ) (e d : VersionId × Arc Contents Z) (rows : Contents) (old new : List B) → i < length es → e ≡ get_or es i d → rows ≡ e.1.value
      → old ≡ filter_map f (records (cells_of (take i es))) → new ≡ old ++ filter_map f rows → new ≡ filter_map f (records (cells_of (take (i + 1) es)))
  one_cell_more es i e d rows old new low is value before joined =
      joined ∙ (λ j. before j ++ filter_map f (value j)) ∙ sym (more es i e (at_index es i e d low is)) ∙ ap (λ k. filter_map f (records (cells_of (take k es)))) (sym (add-one i))
    where
      at_index : {A : Type 0} (xs : List A) (i : ℕ) (x d : A) → i < length xs → x ≡ get_or xs i d → slice_get xs i ≡ Some x
      at_index [] i x d l is = absurd (omega arith)
      at_index (y ∷ ys) zero x d l is = ap Some (sym is)
      at_index (y ∷ ys) (suc i) x d l is = let short : i < length ys = omega arith in at_index ys i x d short is
