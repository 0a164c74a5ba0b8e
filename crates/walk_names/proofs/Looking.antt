-- Looking for a name among pairs, one after another.
use Rattle.std.proofs.Common.{◌≡◌, ℕ, zero, suc, ◌+◌, ◌<◌, List, [], ◌∷◌, length, take, get_or, sym, ◌∙◌, ap, arith, add-one, Bool, true, false, cond}
use Rattle.std.specs.Prelude.{Some, None, slice_get}
use Rattle.std.specs.Map.{lookup}
use Rattle.plan_schema.specs.declared.name.Name.{Name}

-- it is none of the first, but the next
found_next : (test : Name → Bool) (ls : List (Name × ℕ)) (k : ℕ) (pair : Name × ℕ) → lookup test (take k ls) ≡ None → slice_get ls k ≡ Some pair → test pair.0 ≡ true → lookup test ls ≡ Some pair.1
found_next test [] k pair before is here = cc
found_next test (first ∷ ls) zero pair before is here =
    let same : first ≡ pair = cc in
    ap (λ b. cond b (Some first.1) (lookup test ls)) (ap (λ (p : Name × ℕ). test p.0) same ∙ here) ∙ ap (λ (p : Name × ℕ). Some p.1) same
found_next test (first ∷ ls) (suc k) pair before is here = by_cases (test first.0) (λ none. found_next test ls k pair none is here) before
  where
    by_cases : (b : Bool) → (lookup test (take k ls) ≡ None → lookup test ls ≡ Some pair.1) → cond b (Some first.1) (lookup test (take k ls)) ≡ None → cond b (Some first.1) (lookup test ls) ≡ Some pair.1
    by_cases true again none = cc
    by_cases false again none = again none

-- it is none of the first, and not the next
not_next : (test : Name → Bool) (ls : List (Name × ℕ)) (k : ℕ) (pair : Name × ℕ) → lookup test (take k ls) ≡ None → slice_get ls k ≡ Some pair → test pair.0 ≡ false → lookup test (take (suc k) ls) ≡ None
not_next test [] k pair before is here = cc
not_next test (first ∷ ls) zero pair before is here =
    let same : first ≡ pair = cc in
    ap (λ b. cond b (Some first.1) None) (ap (λ (p : Name × ℕ). test p.0) same ∙ here)
not_next test (first ∷ ls) (suc k) pair before is here = by_cases (test first.0) (λ none. not_next test ls k pair none is here) before
  where
    by_cases : (b : Bool) → (lookup test (take k ls) ≡ None → lookup test (take (suc k) ls) ≡ None) → cond b (Some first.1) (lookup test (take k ls)) ≡ None → cond b (Some first.1) (lookup test (take (suc k) ls)) ≡ None
    by_cases true again none = cc
    by_cases false again none = again none

at_index : (ls : List (Name × ℕ)) (k : ℕ) (pair d : Name × ℕ) → k < length ls → pair ≡ get_or ls k d → slice_get ls k ≡ Some pair
at_index [] k pair d l is = absurd (omega arith)
at_index (first ∷ ls) zero pair d l is = ap Some (sym is)
at_index (first ∷ ls) (suc k) pair d l is = let short : k < length ls = omega arith in at_index ls k pair d short is

module _ (test : Name → Bool) (ls : List (Name × ℕ)) (k : ℕ) (pair d : Name × ℕ) (low : k < length ls) (is : pair ≡ get_or ls k d) (before : lookup test (take k ls) ≡ None) where
  pub found_here : test pair.0 ≡ true → lookup test ls ≡ Some pair.1
  found_here here = found_next test ls k pair before (at_index ls k pair d low is) here

  pub not_here : test pair.0 ≡ false → lookup test (take (k + 1) ls) ≡ None
  not_here here = ap (λ j. lookup test (take j ls)) (add-one k) ∙ not_next test ls k pair before (at_index ls k pair d low is) here
