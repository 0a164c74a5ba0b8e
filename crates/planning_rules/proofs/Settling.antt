-- Values that are found step by step from those of the parents: after as many steps as there are rows and one, none is found any
-- more.
use Rattle.std.proofs.Common.{◌≡◌, ℕ, suc, zero, ◌≤◌, ◌⊎◌, inl, inr, List, [], ◌∷◌, length, refl, sym, ◌∙◌, ap, subst, arith, true, false}
use Rattle.std.proofs.lemmas.Bool.{cases_lt}
use Rattle.std.specs.Prelude.{Option, Some, None, is_some}
use Rattle.std.specs.List.{AllByRecursion}
use Rattle.plan_schema.specs.declared.name.Name.{Name}
use Rattle.plan_schema.specs.Contents.{Contents}
use Rattle.planning_rules.specs.Bills.{all_parents}
use Rattle.planning_rules.proofs.Membership.{everywhere}
use Rattle.planning_rules.proofs.Counting.{passing, passing_most, passing_same}
use Rattle.planning_rules.proofs.Parents.{few_parents}

same_options : {V : Type 0} (a b : Option V) → is_some a ≡ is_some b → (is_some a ≡ true → b ≡ a) → a ≡ b
same_options None None e h = refl
same_options None (Some v) e h = cc
same_options (Some u) b e h = sym (h refl)

-- at step k no parent gets another value
abbrev pub IsSettledAt : {V : Type 0} → (ℕ → Name → Option V) → Contents → ℕ → Type 0
IsSettledAt f c k = AllByRecursion (λ p. f k p ≡ f (suc k) p) (all_parents c)

module _ {V : Type 0} (f : ℕ → Name → Option V) (c : Contents)
    (stays : (k : ℕ) (n : Name) → is_some (f k n) ≡ true → f (suc k) n ≡ f k n)
    (next : (k : ℕ) → IsSettledAt f c k → (n : Name) → f (suc k) n ≡ f (suc (suc k)) n)
    (nothing_yet : (n : Name) → is_some (f 0 n) ≡ false) where
  values_same : (k : ℕ) (ns : List Name) → AllByRecursion (λ n. is_some (f k n) ≡ is_some (f (suc k) n)) ns → AllByRecursion (λ n. f k n ≡ f (suc k) n) ns
  values_same k [] h = tt
  values_same k (n ∷ ns) h = (same_options (f k n) (f (suc k) n) h.0 (stays k n), values_same k ns h.1)

  settling : (k : ℕ) → IsSettledAt f c k ⊎ (k ≤ passing (λ n. is_some (f k n)) (all_parents c))
  settling zero = inr (omega arith)
  settling (suc k) =
      elim (settling k) [
        | inl s ↦ inl (everywhere _ (next k s) (all_parents c))
        | inr many ↦ elim (cases_lt (passing (λ n. is_some (f k n)) (all_parents c)) (passing (λ n. is_some (f (suc k) n)) (all_parents c))) [
          | inl more ↦ inr (omega arith)
          | inr same ↦
              let so : IsSettledAt f c k = values_same k (all_parents c) (passing_same (λ n. is_some (f k n)) (λ n. is_some (f (suc k) n)) (λ n h. ap is_some (stays k n h) ∙ h) (all_parents c) same) in
              inl (everywhere _ (next k so) (all_parents c))
        ]
      ]

  pub settled_in_time : IsSettledAt f c (suc (length c))
  settled_in_time =
      elim (settling (suc (length c))) [
        | inl s ↦ s
        | inr many ↦ let most = passing_most (λ n. is_some (f (suc (length c)) n)) (all_parents c) in let few = few_parents c in absurd (omega arith)
      ]

  -- and none later
  pub settled_after : (k : ℕ) → suc (length c) ≤ k → IsSettledAt f c k
  settled_after zero l = absurd (omega arith)
  settled_after (suc k) l =
      elim (cases_lt k (suc (length c))) [
        | inl less ↦ let same : suc (length c) ≡ suc k = omega arith in subst (IsSettledAt f c) same settled_in_time
        | inr more ↦ everywhere _ (next k (settled_after k more)) (all_parents c)
      ]

  -- so more steps than there are rows and two find the same
  pub enough : (k : ℕ) → suc (suc (length c)) ≤ k → (n : Name) → f k n ≡ f (suc (suc (length c))) n
  enough zero l n = absurd (omega arith)
  enough (suc zero) l n = absurd (omega arith)
  enough (suc (suc k)) l n =
      elim (cases_lt (suc k) (suc (suc (length c)))) [
        | inl less ↦ let same : suc (suc k) ≡ suc (suc (length c)) = omega arith in ap (λ j. f j n) same
        | inr more ↦ sym (next k (settled_after k (omega arith)) n) ∙ enough (suc k) more n
      ]
