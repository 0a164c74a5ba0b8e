-- Ancestors over chains of any length.
use Rattle.std.proofs.Common.{◌≡◌, ℕ, suc, zero, ◌+◌, ◌-◌, ◌≤◌, ◌⊎◌, inl, inr, List, [], ◌∷◌, length, map, refl, ◌∙◌, ap, subst, arith, Bool, true, ◌||◌}
use Rattle.std.proofs.lemmas.Bool.{cases_lt}
use Rattle.std.specs.List.{list_any, AllByRecursion}
use Rattle.plan_schema.specs.declared.name.Name.{Name}
use Rattle.plan_schema.specs.Key.{name_eq}
use Rattle.plan_schema.specs.Contents.{Contents}
use Rattle.planning_rules.specs.Bills.{ParentBill, bills_of, parents, all_parents, is_above}
use Rattle.planning_rules.specs.Laws.{ChainsAreShort}
use Rattle.planning_rules.proofs.Membership.{everywhere, all_map, or_more, any_more}
use Rattle.planning_rules.proofs.Counting.{passing, passing_most, passing_same}
use Rattle.planning_rules.proofs.Parents.{each_parent, few_parents}

any_same : (f g : Name → Bool) (bills : List ParentBill) → AllByRecursion (λ bill. f bill.parent ≡ g bill.parent) bills → list_any f (map (λ bill. bill.parent) bills) ≡ list_any g (map (λ bill. bill.parent) bills)
any_same f g [] h = refl
any_same f g (bill ∷ bills) h = λ i. h.0 i || any_same f g bills h.1 i

above_stays : (c : Contents) (a : Name) (k : ℕ) (n : Name) → is_above k c n a ≡ true → is_above (suc k) c n a ≡ true
above_stays c a zero n h = cc
above_stays c a (suc k) n h =
    any_more (λ p. name_eq p a || is_above k c p a) (λ p. name_eq p a || is_above (suc k) c p a)
    (λ p o. or_more (name_eq p a) (is_above k c p a) (name_eq p a) (is_above (suc k) c p a) (λ same. same) (above_stays c a k p) o) (parents c n) h

abbrev IsSettled : Contents → Name → ℕ → Type 0
IsSettled c a k = AllByRecursion (λ p. is_above k c p a ≡ is_above (suc k) c p a) (all_parents c)

above_next : (c : Contents) (a : Name) (k : ℕ) → IsSettled c a k → (n : Name) → is_above (suc k) c n a ≡ is_above (suc (suc k)) c n a
above_next c a k s n =
    any_same (λ p. name_eq p a || is_above k c p a) (λ p. name_eq p a || is_above (suc k) c p a) (bills_of c n)
    (each_parent (λ p. (name_eq p a || is_above k c p a) ≡ (name_eq p a || is_above (suc k) c p a)) n c
    (all_map (λ p. is_above k c p a ≡ is_above (suc k) c p a) (λ p. (name_eq p a || is_above k c p a) ≡ (name_eq p a || is_above (suc k) c p a)) (λ p e. ap (λ b. name_eq p a || b) e) (all_parents c) s))

progress : (c : Contents) (a : Name) (k : ℕ) → IsSettled c a k ⊎ (k ≤ passing (λ n. is_above k c n a) (all_parents c))
progress c a zero = inr (omega arith)
progress c a (suc k) =
    elim (progress c a k) [
      | inl s ↦ inl (everywhere _ (above_next c a k s) (all_parents c))
      | inr many ↦ elim (cases_lt (passing (λ n. is_above k c n a) (all_parents c)) (passing (λ n. is_above (suc k) c n a) (all_parents c))) [
        | inl more ↦ inr (omega arith)
        | inr same ↦
            let so : IsSettled c a k = passing_same (λ n. is_above k c n a) (λ n. is_above (suc k) c n a) (above_stays c a k) (all_parents c) same in
            inl (everywhere _ (above_next c a k so) (all_parents c))
      ]
    ]

settled : (c : Contents) (a : Name) → IsSettled c a (suc (length c))
settled c a =
    elim (progress c a (suc (length c))) [
      | inl s ↦ s
      | inr many ↦ let most = passing_most (λ n. is_above (suc (length c)) c n a) (all_parents c) in let few = few_parents c in absurd (omega arith)
    ]

settled_after : (c : Contents) (a : Name) (j m : ℕ) → m ≡ j + suc (length c) → IsSettled c a m
settled_after c a zero m e = subst (IsSettled c a) (let z : suc (length c) ≡ m = omega arith in z) (settled c a)
settled_after c a (suc j) zero e = absurd (omega arith)
settled_after c a (suc j) (suc m) e = everywhere _ (above_next c a m (settled_after c a j m (omega arith))) (all_parents c)

above_up : (c : Contents) (n a : Name) (j k m : ℕ) → m ≡ j + k → is_above k c n a ≡ true → is_above m c n a ≡ true
above_up c n a zero k m e h = subst (λ x. is_above x c n a ≡ true) (let z : k ≡ m = omega arith in z) h
above_up c n a (suc j) k zero e h = absurd (omega arith)
above_up c n a (suc j) k (suc m) e h = above_stays c a m n (above_up c n a j k m (omega arith) h)

pub chains_are_short : ChainsAreShort
chains_are_short c n a zero h = cc
chains_are_short c n a (suc zero) h = above_up c n a (suc (length c)) 1 (suc (suc (length c))) (omega arith) h
chains_are_short c n a (suc (suc k)) h =
    elim (cases_lt k (suc (length c))) [
      | inl fewer ↦ above_up c n a (length c - k) (suc (suc k)) (suc (suc (length c))) (omega arith) h
      | inr more ↦
          let same : is_above (suc k) c n a ≡ is_above (suc (suc k)) c n a = above_next c a k (settled_after c a (k - suc (length c)) k (omega arith)) n in
          chains_are_short c n a (suc k) (same ∙ h)
    ]
