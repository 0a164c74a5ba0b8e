-- The best list looked at anew on each day that is short is one best list.
use Rattle.std.proofs.Common.{◌≡◌, ℕ, zero, suc, ◌+◌, ◌-◌, ◌*◌, ◌<◌, ◌≤◌, inl, inr, List, [], ◌∷◌, map, max, ◌==◌, refl, sym, ◌∙◌, ap, subst, arith, true, false}
use Rattle.std.specs.Prelude.{if◌then◌else◌}
use Rattle.std.proofs.lemmas.Bool.{cases_lt}
use Rattle.std.proofs.lemmas.Bool.Decides.{nat_tests}
use Rattle.planning_rules.specs.BestLots.{needs_after, needs, needed, least_after, best_after, best, first_order}
use Rattle.planning_rules.proofs.BestIsCheapest.{best_orders, best_waits, needed_ordered}

-- the shortages that are left where so much is ordered
abbrev pub left : ℕ → List ℕ → List ℕ
left made short = map (λ s. s - made) short

-- orders day by day: none where enough is ordered, else the first order of the best list for what is left
abbrev pub anew : ℕ → ℕ → ℕ → List ℕ → List ℕ
anew setup hold made [] = []
anew setup hold made (s ∷ short) =
    let q = if s - made == 0 then 0 else first_order (best setup hold (needs (left made (s ∷ short)))) in
    q ∷ anew setup hold (made + q) short

anew_enough : (setup hold made s : ℕ) (short : List ℕ) → s ≤ made → anew setup hold made (s ∷ short) ≡ 0 ∷ anew setup hold (made + 0) short
anew_enough setup hold made s short h = let none : (s - made == 0) ≡ true = grind (arith, nat_tests) in rw none refl

anew_short : (setup hold made s q : ℕ) (short : List ℕ) → made < s → first_order (best setup hold (needs (left made (s ∷ short)))) ≡ q → anew setup hold made (s ∷ short) ≡ q ∷ anew setup hold (made + q) short
anew_short setup hold made s q short h e =
    let some : (s - made == 0) ≡ false = grind (arith, nat_tests) in
    rw (some, e) refl

-- the needs of what is left
pub needs_left : (most made : ℕ) (short : List ℕ) → needs_after most (left made short) ≡ needs_after (most + made) short
needs_left most made [] = refl
needs_left most made (s ∷ short) =
    let here : (s - made) - most ≡ s - (most + made) = omega arith in
    let top : max most (s - made) + made ≡ max (most + made) s = omega arith in
    let rest = needs_left (max most (s - made)) made short ∙ ap (λ k. needs_after k short) top in
    λ i. here i ∷ rest i

needs_zero : (made : ℕ) (short : List ℕ) → needs (left made short) ≡ needs_after made short
needs_zero made short = needs_left 0 made short ∙ ap (λ k. needs_after k short) (let z : 0 + made ≡ made = omega arith in z)

first_is : (setup hold n : ℕ) (wants : List ℕ) → 0 < n → first_order (best setup hold (n ∷ wants)) ≡ n + needed wants (best_after setup hold 1 wants)
first_is setup hold zero wants h = absurd (omega arith)
first_is setup hold (suc n) wants h = refl

-- a day on which nothing is ordered
no_order : (setup hold made s : ℕ) (short orders : List ℕ) → s ≤ made → anew setup hold (made + 0) short ≡ orders → anew setup hold made (s ∷ short) ≡ 0 ∷ orders
no_order setup hold made s short orders h rest = anew_enough setup hold made s short h ∙ ap (λ qs. 0 ∷ qs) rest

-- a day on which one orders
an_order : (setup hold made s : ℕ) (short : List ℕ) → made < s
    → anew setup hold (made + ((s - made) + needed (needs_after (max made s) short) (best_after setup hold 1 (needs_after (max made s) short)))) short ≡ best_after setup hold 1 (needs_after (max made s) short)
    → anew setup hold made (s ∷ short)
    ≡ ((s - made) + needed (needs_after (max made s) short) (best_after setup hold 1 (needs_after (max made s) short))) ∷ best_after setup hold 1 (needs_after (max made s) short)
an_order setup hold made s short h rest =
    let first : first_order (best setup hold (needs (left made (s ∷ short)))) ≡ (s - made) + needed (needs_after (max made s) short) (best_after setup hold 1 (needs_after (max made s) short)) =
    ap (λ wants. first_order (best setup hold wants)) (needs_zero made (s ∷ short)) ∙ first_is setup hold (s - made) (needs_after (max made s) short) (omega arith) in
    anew_short setup hold made s _ short h first ∙ ap (λ qs. ((s - made) + needed (needs_after (max made s) short) (best_after setup hold 1 (needs_after (max made s) short))) ∷ qs) rest

-- what holds of the days after
abbrev GoesOn : ℕ → ℕ → List ℕ → Type 0
GoesOn setup hold short =
    (since made most : ℕ) → made ≡ most + needed (needs_after most short) (best_after setup hold since (needs_after most short)) → anew setup hold made short ≡ best_after setup hold since (needs_after most short)

ordered_day : (setup hold made s n : ℕ) (short : List ℕ) → GoesOn setup hold short → s - made ≡ suc n
    → anew setup hold made (s ∷ short)
    ≡ (suc n + needed (needs_after (max made s) short) (best_after setup hold 1 (needs_after (max made s) short))) ∷ best_after setup hold 1 (needs_after (max made s) short)
ordered_day setup hold made s n short on is =
    subst (λ k. anew setup hold made (s ∷ short) ≡ (k + needed (needs_after (max made s) short) (best_after setup hold 1 (needs_after (max made s) short))) ∷ best_after setup hold 1 (needs_after (max made s) short)) is
    (an_order setup hold made s short (omega arith) (on 1 _ (max made s) (omega arith)))

day_again : (setup hold since made most s n : ℕ) (short : List ℕ) → GoesOn setup hold short → s - most ≡ n
    → made ≡ most + needed (n ∷ needs_after (max most s) short) (best_after setup hold since (n ∷ needs_after (max most s) short))
    → anew setup hold made (s ∷ short) ≡ best_after setup hold since (n ∷ needs_after (max most s) short)
day_again setup hold since made most s zero short on is e =
    no_order setup hold made s short (best_after setup hold (suc since) (needs_after (max most s) short)) (omega arith) (on (suc since) (made + 0) (max most s) (omega arith))
day_again setup hold since made most s (suc n) short on is e =
    elim (cases_lt (hold * (suc n * since) + least_after setup hold (suc since) (needs_after (max most s) short)) (setup + least_after setup hold 1 (needs_after (max most s) short))) [
      | inl less ↦
          let waits = best_waits setup hold since n (needs_after (max most s) short) less in
          let ahead : made ≡ most + (suc n + needed (needs_after (max most s) short) (best_after setup hold (suc since) (needs_after (max most s) short))) =
          e ∙ ap (λ orders. most + needed (suc n ∷ needs_after (max most s) short) orders) waits in
          no_order setup hold made s short (best_after setup hold (suc since) (needs_after (max most s) short)) (omega arith) (on (suc since) (made + 0) (max most s) (omega arith)) ∙ sym waits
      | inr no_less ↦
          let orders = best_orders setup hold since n (needs_after (max most s) short) no_less in
          let none = needed_ordered (suc n) (suc n + needed (needs_after (max most s) short) (best_after setup hold 1 (needs_after (max most s) short))) (needs_after (max most s) short) (best_after setup hold 1 (needs_after (max most s) short)) (omega arith) in
          let at_most : made ≡ most = e ∙ ap (λ orders. most + needed (suc n ∷ needs_after (max most s) short) orders) orders ∙ ap (λ k. most + k) none ∙ omega arith in
          subst (λ m. anew setup hold m (s ∷ short) ≡ best_after setup hold since (suc n ∷ needs_after (max most s) short)) (sym at_most)
          (ordered_day setup hold most s n short on is ∙ sym orders)
    ]

-- after an order: what is ordered lies ahead
pub anew_after : (setup hold : ℕ) (short : List ℕ) → GoesOn setup hold short
anew_after setup hold [] since made most e = refl
anew_after setup hold (s ∷ short) since made most e = day_again setup hold since made most s (s - most) short (anew_after setup hold short) refl e

-- before the first order
first_day : (setup hold made s n : ℕ) (short : List ℕ) → GoesOn setup hold short → anew setup hold (made + 0) short ≡ best setup hold (needs_after (made + 0) short) → s - made ≡ n
    → anew setup hold made (s ∷ short) ≡ best setup hold (n ∷ needs_after (max made s) short)
first_day setup hold made s zero short on rest is =
    let top : made + 0 ≡ max made s = omega arith in
    no_order setup hold made s short (best setup hold (needs_after (max made s) short)) (omega arith) (rest ∙ ap (λ k. best setup hold (needs_after k short)) top)
first_day setup hold made s (suc n) short on rest is = ordered_day setup hold made s n short on is

pub anew_is_best : (setup hold made : ℕ) (short : List ℕ) → anew setup hold made short ≡ best setup hold (needs_after made short)
anew_is_best setup hold made [] = refl
anew_is_best setup hold made (s ∷ short) = first_day setup hold made s (s - made) short (anew_after setup hold short) (anew_is_best setup hold (made + 0) short) refl
