-- What a binary search tells of a list in its order.
use Rattle.std.proofs.Common.{◌≡◌, ℕ, ◌<◌, List, [], ◌∷◌, length, get_or, Result, Ok, Err, false, inl, inr, sym, ◌∙◌, ap, arith}
use Rattle.std.specs.Result.{is_ok}
use Rattle.std.specs.List.{list_any, All}
use Rattle.std.specs.Cmp.{IsTotalOrder, tied_back}
use Rattle.std.specs.Ordering.{is_eq, ordering_reverse}
use Rattle.std.specs.declared.cmp.Ordering.{Ordering}
use Rattle.std.specs.List.Sorted.{IsSorted, IsSearchInRange, IsBinarySearchResult}
use Rattle.std.proofs.lemmas.List.Folds.{list_any_at, list_any_none}
use Rattle.std.proofs.lemmas.List.Sorted.{searchable_from_sorted}
use Rattle.std.proofs.lemmas.Bool.{cases_lt}

-- a search succeeds where the key is there
pub search_tells : {K : Type 0} {R : K → K → Ordering} (o : IsTotalOrder R) (k : K) (xs : List K) (r : Result ℕ ℕ) → IsSorted R xs → IsSearchInRange r (length xs) → IsBinarySearchResult (λ y. R y k) xs r
    → is_ok r ≡ list_any (λ x. is_eq (R k x)) xs
search_tells {K = K} {R = R} o k xs (Ok i) sorted lt at = sym (list_any_at (λ x. is_eq (R k x)) xs i (some xs i lt) lt (ap is_eq (tied_back o _ _ (at (some xs i lt)))))
  where
    some : (es : List K) (i : ℕ) → i < length es → K
    some [] i h = absurd (omega arith)
    some (e ∷ es) i h = e
search_tells {K = K} {R = R} o k xs (Err i) sorted le parted = sym (list_any_none (λ x. is_eq (R k x)) xs apart)
  where
    apart : All (λ x. is_eq (R k x) ≡ false) xs
    apart j d lt =
        let rest = parted (searchable_from_sorted o (λ x. x) xs k sorted) in
        elim (cases_lt j i) [
          | inl before ↦ ap is_eq (o.antisymm k (get_or xs j d) ∙ ap ordering_reverse (rest.0 j d (omega arith) before))
          | inr after ↦ ap is_eq (o.antisymm k (get_or xs j d) ∙ ap ordering_reverse (rest.1 j d (omega arith) lt))
        ]
