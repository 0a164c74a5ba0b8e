-- Names that are found one after another.
use Rattle.std.proofs.Common.{◌≡◌, ℕ, ◌+◌, ◌<◌, ◌⊎◌, inl, inr, List, [], ◌∷◌, refl, sym, ◌∙◌, ap, subst, arith, Bool, true, false, cond, ◌&&◌}
use Rattle.std.proofs.lemmas.Bool.{cases_lt}
use Rattle.std.specs.Prelude.{Some, slice_get}
use Rattle.std.specs.List.{list_all, AllByRecursion}
use Rattle.std.specs.Ordering.{nat_cmp, is_lt}
use Rattle.std.specs.declared.cmp.Ordering.TheVariants.{Less}
use Rattle.std.specs.Cmp.Lexicographic.{slice_cmp}
use Rattle.std.specs.List.Sorted.{IsStrictlySortedBy}
use Rattle.std.proofs.lemmas.Map.Keys.{sorted_head, sorted_tail}
use Rattle.plan_schema.specs.declared.name.Name.{Name}
use Rattle.plan_schema.specs.Key.{name_eq, name_cmp}
use Rattle.planning_rules.proofs.LevelLaws.{one_name}
use Rattle.low_level_codes.specs.Levels.{are_ascending}
use Rattle.low_level_codes.specs.Graphs.{marked}
use Rattle.low_level_codes.specs.Numbers.{holds}
use Rattle.low_level_codes.proofs.Places.{never}

-- keys of a tree are ascending
pub ascending : (ns : List Name) → IsStrictlySortedBy (slice_cmp nat_cmp) ns → are_ascending ns ≡ true
ascending [] h = refl
ascending (n ∷ ns) h = both (list_all (λ m. is_lt (name_cmp n m)) ns) (are_ascending ns) (each ns (sorted_head (slice_cmp nat_cmp) n ns h)) (ascending ns (sorted_tail (slice_cmp nat_cmp) n ns h))
  where
    both : (a b : Bool) → a ≡ true → b ≡ true → (a && b) ≡ true
    both true b x y = y
    both false b x y = never x

    each : (ms : List Name) → AllByRecursion (λ m. slice_cmp nat_cmp n m ≡ Less) ms → list_all (λ m. is_lt (name_cmp n m)) ms ≡ true
    each [] h = refl
    each (m ∷ ms) h = both (is_lt (name_cmp n m)) (list_all (λ m. is_lt (name_cmp n m)) ms) (ap is_lt h.0) (each ms h.1)

pub found_more : (b x y : Bool) → x ≡ cond b true y → y ≡ true → x ≡ true
found_more true x y e h = e
found_more false x y e h = e ∙ h

pub found_here : (b x y : Bool) → x ≡ cond b true y → b ≡ true → x ≡ true
found_here true x y e h = e
found_here false x y e h = never h

pub found_one : (name n : Name) (x y : Bool) → x ≡ cond (name_eq name n) true y → x ≡ true → (y ≡ true) ⊎ (name ≡ n)
found_one name n x y e h = by_cases (name_eq name n) refl e
  where
    by_cases : (b : Bool) → name_eq name n ≡ b → x ≡ cond b true y → (y ≡ true) ⊎ (name ≡ n)
    by_cases true is e = inr (one_name name n is)
    by_cases false is e = inl (sym e ∙ h)

-- one place more
pub has_more : (ns : List Name) (seen : List Bool) (found : List Name) (place : ℕ) → ((k : ℕ) (n : Name) → k < place → slice_get ns k ≡ Some n → marked seen k ≡ true → holds found n ≡ true)
    → ((n : Name) → slice_get ns place ≡ Some n → marked seen place ≡ true → holds found n ≡ true)
    → (k : ℕ) (n : Name) → k < place + 1 → slice_get ns k ≡ Some n → marked seen k ≡ true → holds found n ≡ true
has_more ns seen found place before here k n l is h = elim (cases_lt k place) [
  | inl less ↦ before k n less is h
  | inr more ↦
      let same : k ≡ place = omega arith in
      here n (subst (λ j. slice_get ns j ≡ Some n) same is) (subst (λ j. marked seen j ≡ true) same h)
]
