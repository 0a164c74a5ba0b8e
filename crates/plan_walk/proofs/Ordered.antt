-- Names by level: each stands once, and its parents stand before it.
use Rattle.std.proofs.Common.{◌≡◌, ℕ, zero, suc, ◌<◌, ◌≤◌, inl, inr, List, [], ◌∷◌, take, refl, sym, ◌∙◌, ap, subst, arith, Bool, true, false, ◌&&◌, ◌||◌, ◌==◌}
use Rattle.std.proofs.lemmas.Bool.{and_parts, cases_lt}
use Rattle.std.proofs.lemmas.Bool.Decides.{nat_tests}
use Rattle.std.specs.Prelude.{Option, Some, None, slice_get, is_some, unwrap_or, nat_lt, Contains}
use Rattle.std.specs.List.{AllByRecursion, list_all}
use Rattle.std.specs.Ordering.{is_lt, is_eq}
use Rattle.std.specs.declared.cmp.Ordering.{Ordering}
use Rattle.std.specs.declared.cmp.Ordering.TheVariants.{Less, Equal, Greater}
use Rattle.plan_schema.specs.declared.name.Name.{Name}
use Rattle.plan_schema.specs.Key.{name_eq, name_cmp}
use Rattle.plan_schema.specs.Contents.{Contents}
use Rattle.planning_rules.specs.Bills.{parents, level}
use Rattle.planning_rules.specs.Refused.{in_reach}
use Rattle.planning_rules.proofs.LevelLaws.{same_name, one_name, parent_lower}
use Rattle.planning_rules.proofs.Membership.{IsIn, in_contained, contained_in, all_in, all_map}
use Rattle.plan_jobs.proofs.Gathering.{parent_reached}
use Rattle.walk_names.specs.Names.{goes_before, are_by_level, AreWalkNames}
use Rattle.plan_walk.specs.Places.{AreDistinct}
use Rattle.plan_walk.proofs.Places.{each_at}

pub in_at : (ns : List Name) (p : Name) → IsIn p ns → (q : ℕ) × (slice_get ns q ≡ Some p)
in_at [] p i = absurd i
in_at (n ∷ ns) p (inl e) = (0, ap Some e)
in_at (n ∷ ns) p (inr i) = let w = in_at ns p i in (suc w.0, w.1)

in_take : (ns : List Name) (q i : ℕ) (p : Name) → slice_get ns q ≡ Some p → q < i → IsIn p (take i ns)
in_take [] q i p at l = absurd (let never : ⊥ = cc in never)
in_take (n ∷ ns) q zero p at l = absurd (omega arith)
in_take (n ∷ ns) zero (suc i) p at l = inl (let same : n ≡ p = cc in same)
in_take (n ∷ ns) (suc q) (suc i) p at l = let short : q < i = omega arith in inr (in_take ns q i p at short)

not_both : (o : Ordering) → is_eq o ≡ true → is_lt o ≡ false
not_both Equal h = refl
not_both Less h = let never : false ≡ true = h in cc
not_both Greater h = refl

module _ (c : Contents) where
  level_or : Name → ℕ
  level_or n = unwrap_or (level c n) 0

  goes : (i k : ℕ) (b : Bool) → (nat_lt i k || ((i == k) && b)) ≡ true → i ≤ k
  goes i k true h = grind (arith, nat_tests)
  goes i k false h = grind (arith, nat_tests)

  goes_up : (a b : Name) → goes_before c a b ≡ true → unwrap_or (level c a) 0 ≤ unwrap_or (level c b) 0
  goes_up a b h = goes (unwrap_or (level c a) 0) (unwrap_or (level c b) 0) (is_lt (name_cmp a b)) h

  same_level : (i : ℕ) (b : Bool) → b ≡ false → (nat_lt i i || ((i == i) && b)) ≡ true → ⊥
  same_level i true e h = cc
  same_level i false e h = let none : (nat_lt i i || ((i == i) && false)) ≡ false = grind (arith, nat_tests) in let never : false ≡ true = sym none ∙ h in cc

  not_itself : (n : Name) → goes_before c n n ≡ true → ⊥
  not_itself n h = same_level (unwrap_or (level c n) 0) (is_lt (name_cmp n n)) (not_both (name_cmp n n) (same_name n)) h

  apart : (n : Name) (ns : List Name) → list_all (goes_before c n) ns ≡ true → AllByRecursion (λ m. name_eq n m ≡ false) ns
  apart n [] h = tt
  apart n (m ∷ ms) h =
      let two = and_parts (goes_before c n m) (list_all (goes_before c n) ms) h in
      (by_cases m two.0 (name_eq n m) refl, apart n ms two.1)
    where
      by_cases : (m : Name) → goes_before c n m ≡ true → (b : Bool) → name_eq n m ≡ b → b ≡ false
      by_cases m before false e = refl
      by_cases m before true e = absurd (not_itself n (subst (λ x. goes_before c n x ≡ true) (sym (one_name n m e)) before))

  pub distinct : (ns : List Name) → are_by_level c ns ≡ true → AreDistinct ns
  distinct [] h = tt
  distinct (n ∷ ns) h = let two = and_parts (list_all (goes_before c n) ns) (are_by_level c ns) h in (apart n ns two.0, distinct ns two.1)

  all_at : (test : Name → Bool) (ns : List Name) (k : ℕ) (x : Name) → list_all test ns ≡ true → slice_get ns k ≡ Some x → test x ≡ true
  all_at test [] k x h at = absurd (let never : ⊥ = cc in never)
  all_at test (n ∷ ns) zero x h at = let same : n ≡ x = cc in ap test (sym same) ∙ (and_parts (test n) (list_all test ns) h).0
  all_at test (n ∷ ns) (suc k) x h at = all_at test ns k x (and_parts (test n) (list_all test ns) h).1 at

  in_order : (ns : List Name) (i k : ℕ) (a b : Name) → are_by_level c ns ≡ true → i < k → slice_get ns i ≡ Some a → slice_get ns k ≡ Some b → goes_before c a b ≡ true
  in_order [] i k a b h l at to = absurd (let never : ⊥ = cc in never)
  in_order (n ∷ ns) zero zero a b h l at to = absurd (omega arith)
  in_order (n ∷ ns) zero (suc k) a b h l at to =
      let same : n ≡ a = cc in
      subst (λ x. goes_before c x b ≡ true) same (all_at (goes_before c n) ns k b (and_parts (list_all (goes_before c n) ns) (are_by_level c ns) h).0 to)
  in_order (n ∷ ns) (suc i) zero a b h l at to = absurd (omega arith)
  in_order (n ∷ ns) (suc i) (suc k) a b h l at to =
      let short : i < k = omega arith in in_order ns i k a b (and_parts (list_all (goes_before c n) ns) (are_by_level c ns) h).1 short at to

  -- what has a lower level stands before
  earlier : (ns : List Name) (i q : ℕ) (n p : Name) → are_by_level c ns ≡ true → slice_get ns i ≡ Some n → slice_get ns q ≡ Some p → unwrap_or (level c p) 0 < unwrap_or (level c n) 0 → q < i
  earlier ns i q n p h at to low = elim (cases_lt q i) [
    | inl less ↦ less
    | inr more ↦ elim (cases_lt i q) [
      | inl above ↦ let up = goes_up n p (in_order ns i q n p h above at to) in absurd (omega arith)
      | inr not_above ↦
          let same : i ≡ q = omega arith in
          let one : Some n ≡ Some p = sym at ∙ ap (slice_get ns) same ∙ to in
          let names : n ≡ p = cc in
          let levels : unwrap_or (level c p) 0 ≡ unwrap_or (level c n) 0 = ap (λ x. unwrap_or (level c x) 0) (sym names) in
          absurd (omega arith)
    ]
  ]

  module _ (asked names : List Name) (w : AreWalkNames c asked names) where
    pub parents_before : (i : ℕ) (n : Name) → slice_get names i ≡ Some n → AllByRecursion (Contains (take i names)) (parents c n)
    parents_before i n at = all_map (λ p. IsIn p (parents c n)) (Contains (take i names)) one (parents c n) (all_in (parents c n))
      where
        reached : IsIn n (in_reach c asked)
        reached = in_contained (in_reach c asked) n ((w.members n).0 (contained_in names n (at_in names i n at)))
          where
            at_in : (ns : List Name) (i : ℕ) (n : Name) → slice_get ns i ≡ Some n → IsIn n ns
            at_in [] i n at = absurd (let never : ⊥ = cc in never)
            at_in (m ∷ ms) zero n at = inl (let same : m ≡ n = cc in same)
            at_in (m ∷ ms) (suc i) n at = inr (at_in ms i n at)

        by_level : (p : Name) → IsIn p (parents c n) → (q : ℕ) → slice_get names q ≡ Some p → (o : Option ℕ) → level c n ≡ o → is_some o ≡ true → q < i
        by_level p up q to None e h = let never : false ≡ true = h in cc
        by_level p up q to (Some l) e h =
            let low = parent_lower c n p l up e in
            let under : low.0 < l = low.2 in
            let mine : unwrap_or (level c n) 0 ≡ l = ap (λ o. unwrap_or o 0) e in
            let its : unwrap_or (level c p) 0 ≡ low.0 = ap (λ o. unwrap_or o 0) low.1 in
            earlier names i q n p w.ordered at to (omega arith)

        one : (p : Name) → IsIn p (parents c n) → Contains (take i names) p
        one p up =
            let there = in_at names p (in_contained names p ((w.members p).1 (contained_in (in_reach c asked) p (parent_reached c asked n p reached up)))) in
            contained_in (take i names) p (in_take names there.0 i p there.1 (by_level p up there.0 there.1 (level c n) refl (each_at (λ m. is_some (level c m) ≡ true) names i n w.leveled at)))
