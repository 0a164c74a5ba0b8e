-- The best list of what is short: it is enough, costs the least of all lists that are enough, and is the one best list.
use Rattle.std.proofs.Common.{◌≡◌, ℕ, zero, suc, ◌+◌, ◌-◌, ◌*◌, ◌<◌, ◌≤◌, inl, inr, List, [], ◌∷◌, max, refl, sym, ◌∙◌, subst, arith}
use Rattle.planning_rules.specs.Amounts.{IsLeast}
use Rattle.planning_rules.specs.BestLots.{needs_after, needs, IsCoveredAfter, IsCovered, cost_after, cost, needed, IsJust, IsSimple, IsCheapest, least_cost, best_after, best, first_order, IsNotAbove, IsBest}
use Rattle.planning_rules.proofs.LeastCost.{enough_costs}
use Rattle.planning_rules.proofs.BestIsCheapest.{just_ordered, needed_ordered, waiting_cost, cost_waits, cost_orders, cost_ends, best_after_just, best_after_costs, best_after_first, more_alike}

-- cost by days is cost by waiting: what lies ahead is what is needed before the next order
pub waiting_is_cost : (setup hold since made most : ℕ) (short orders : List ℕ) → IsJust (needs_after most short) orders → made ≡ most + needed (needs_after most short) orders
    → hold * (since * needed (needs_after most short) orders) + cost_after setup hold made most short orders ≡ waiting_cost setup hold since (needs_after most short) orders
waiting_is_cost setup hold since made most [] [] h e = omega (arith, cost_ends setup hold since [])
waiting_is_cost setup hold since made most [] (q ∷ orders) h e = absurd h
waiting_is_cost setup hold since made most (s ∷ short) [] h e = absurd h
waiting_is_cost setup hold since made most (s ∷ short) (zero ∷ orders) h e =
    let ahead : (made + 0) ≡ max most s + needed (needs_after (max most s) short) orders = omega arith in
    let rest = waiting_is_cost setup hold (suc since) (made + 0) (max most s) short orders h ahead in
    let here = cost_waits setup hold since (s - most) (needs_after (max most s) short) orders in
    let left : (made + 0) - max most s ≡ needed (needs_after (max most s) short) orders = omega arith in
    waits_plain hold since (s - most) (needed (needs_after (max most s) short) orders) _ _ _ _ left rest here
  where
    waits_plain : (hold since n a left rest_cost rest_waiting waiting : ℕ) → left ≡ a → hold * (suc since * a) + rest_cost ≡ rest_waiting → waiting ≡ hold * (n * since) + rest_waiting
        → hold * (since * (n + a)) + ((0 + hold * left) + rest_cost) ≡ waiting
    waits_plain hold since n a left rest_cost rest_waiting waiting e r h = rw e (omega arith)
waiting_is_cost setup hold since made most (s ∷ short) (suc q ∷ orders) h e =
    let ahead : made + suc q ≡ max most s + needed (needs_after (max most s) short) orders = ordered_plain made (suc q) most s _ e h.1 in
    let rest = waiting_is_cost setup hold 1 (made + suc q) (max most s) short orders h.2 ahead in
    let here = cost_orders setup hold since (s - most) (suc q) (needs_after (max most s) short) orders (omega arith) in
    let left : (made + suc q) - max most s ≡ needed (needs_after (max most s) short) orders = omega arith in
    orders_plain setup hold since (needed (needs_after (max most s) short) orders) _ _ _ _ left rest here
  where
    ordered_plain : (made q most s a : ℕ) → made ≡ most + 0 → q ≡ (s - most) + a → made + q ≡ max most s + a
    ordered_plain made q most s a e h = omega arith

    orders_plain : (setup hold since a left rest_cost rest_waiting waiting : ℕ) → left ≡ a → hold * (1 * a) + rest_cost ≡ rest_waiting → waiting ≡ setup + rest_waiting
        → hold * (since * 0) + ((setup + hold * left) + rest_cost) ≡ waiting
    orders_plain setup hold since a left rest_cost rest_waiting waiting e r h = rw e (omega arith)

-- such orders are enough
pub just_covers : (made most : ℕ) (short orders : List ℕ) → IsJust (needs_after most short) orders → made ≡ most + needed (needs_after most short) orders → IsCoveredAfter made short orders
just_covers made most [] [] h e = tt
just_covers made most [] (q ∷ orders) h e = absurd h
just_covers made most (s ∷ short) [] h e = absurd h
just_covers made most (s ∷ short) (zero ∷ orders) h e = (omega arith, just_covers (made + 0) (max most s) short orders h (omega arith))
just_covers made most (s ∷ short) (suc q ∷ orders) h e =
    let is : suc q ≡ (s - most) + needed (needs_after (max most s) short) orders = h.1 in
    (omega arith, just_covers (made + suc q) (max most s) short orders h.2 (omega arith))

pub simple_covers : (short orders : List ℕ) → IsSimple (needs short) orders → IsCovered short orders
simple_covers short orders h = just_covers 0 0 short orders h.1 (let none = h.0 in omega arith)

pub simple_costs : (setup hold since : ℕ) (short orders : List ℕ) → IsSimple (needs short) orders → cost setup hold short orders ≡ waiting_cost setup hold since (needs short) orders
simple_costs setup hold since short orders h =
    plain hold since _ _ _ h.0 (waiting_is_cost setup hold since 0 0 short orders h.1 (let none = h.0 in omega arith))
  where
    plain : (hold since a c w : ℕ) → a ≡ 0 → hold * (since * a) + c ≡ w → c ≡ w
    plain hold since a c w none e = let zeroed : hold * (since * 0) + c ≡ w = subst (λ k. hold * (since * k) + c ≡ w) none e in omega arith

-- the best list ------------------------------------------------------------------------------------------------------------------------

pub best_is_simple : (setup hold : ℕ) (wants : List ℕ) → IsSimple wants (best setup hold wants)
best_is_simple setup hold [] = (refl, tt)
best_is_simple setup hold (zero ∷ wants) = let rest = best_is_simple setup hold wants in (omega (arith, rest.0), rest.1)
best_is_simple setup hold (suc n ∷ wants) = (
  needed_ordered (suc n) (suc n + needed wants (best_after setup hold 1 wants)) wants (best_after setup hold 1 wants) (omega arith),
  just_ordered (suc n) (suc n + needed wants (best_after setup hold 1 wants)) wants (best_after setup hold 1 wants) (omega arith) refl (best_after_just setup hold 1 wants),
)

best_waiting : (setup hold since : ℕ) (wants : List ℕ) → waiting_cost setup hold since wants (best setup hold wants) ≡ least_cost setup hold wants
best_waiting setup hold since [] = cost_ends setup hold since []
best_waiting setup hold since (zero ∷ wants) =
    let rest = best_waiting setup hold (suc since) wants in let here = cost_waits setup hold since 0 wants (best setup hold wants) in omega arith
best_waiting setup hold since (suc n ∷ wants) =
    let rest = best_after_costs setup hold 1 wants in
    cost_orders setup hold since (suc n) (suc n + needed wants (best_after setup hold 1 wants)) wants (best_after setup hold 1 wants) (omega arith) ∙ omega arith

pub best_costs : (setup hold : ℕ) (short : List ℕ) → cost setup hold short (best setup hold (needs short)) ≡ least_cost setup hold (needs short)
best_costs setup hold short = simple_costs setup hold 0 short _ (best_is_simple setup hold (needs short)) ∙ best_waiting setup hold 0 (needs short)

-- no list that is enough costs less than the best
pub best_is_least : (setup hold : ℕ) (short orders : List ℕ) → IsCovered short orders → cost setup hold short (best setup hold (needs short)) ≤ cost setup hold short orders
best_is_least setup hold short orders h = let is = best_costs setup hold short in let low = enough_costs setup hold short orders h in omega arith

pub best_is_cheapest : (setup hold : ℕ) (short : List ℕ) → IsCheapest setup hold short (best setup hold (needs short))
best_is_cheapest setup hold short = (best_is_simple setup hold (needs short), λ other h. best_is_least setup hold short other (simple_covers short other h))

-- of the simple lists that cost the least, the best stands before the others
best_first : (setup hold since : ℕ) (wants orders : List ℕ) → IsSimple wants orders → waiting_cost setup hold since wants orders ≤ least_cost setup hold wants → IsNotAbove (best setup hold wants) orders
best_first setup hold since [] [] h low = tt
best_first setup hold since [] (q ∷ orders) h low = absurd h.1
best_first setup hold since (n ∷ wants) [] h low = absurd h.1
best_first setup hold since (zero ∷ wants) (zero ∷ orders) h low =
    let here = cost_waits setup hold since 0 wants orders in
    let none : 0 + needed wants orders ≡ 0 = h.0 in
    inr (refl, best_first setup hold (suc since) wants orders (omega arith, h.1) (omega arith))
best_first setup hold since (zero ∷ wants) (suc q ∷ orders) h low = let never : 0 < 0 = h.1.0 in absurd (omega arith)
best_first setup hold since (suc n ∷ wants) (zero ∷ orders) h low = let none : suc n + needed wants orders ≡ 0 = h.0 in absurd (omega arith)
best_first setup hold since (suc n ∷ wants) (suc q ∷ orders) h low =
    let here = cost_orders setup hold since (suc n) (suc q) wants orders (omega arith) in
    subst (λ k. IsNotAbove ((suc n + needed wants (best_after setup hold 1 wants)) ∷ best_after setup hold 1 wants) (k ∷ orders)) (sym h.1.1)
    (more_alike (suc n) _ _ _ _ (best_after_first setup hold 1 wants orders h.1.2 (omega arith)))

pub best_is_best : (setup hold : ℕ) (short : List ℕ) → IsBest setup hold short (best setup hold (needs short))
best_is_best setup hold short = (
  best_is_cheapest setup hold short,
  λ other h. best_first setup hold 0 (needs short) other h.0 (let low = h.1 (best setup hold (needs short)) (best_is_simple setup hold (needs short)) in
      let is = best_costs setup hold short in
      let also = simple_costs setup hold 0 short other h.0 in
      omega arith),
)

-- two lists that stand before each other are the same
not_above_both : (xs ys : List ℕ) → IsNotAbove xs ys → IsNotAbove ys xs → xs ≡ ys
not_above_both [] [] h k = refl
not_above_both [] (y ∷ ys) h k = absurd h
not_above_both (x ∷ xs) [] h k = absurd h
not_above_both (x ∷ xs) (y ∷ ys) h k =
    elim h [
      | inl less ↦ elim k [ inl more ↦ absurd (omega arith) | inr same ↦ let e = same.0 in absurd (omega arith) ]
      | inr same ↦ elim k [
        | inl more ↦ let e = same.0 in absurd (omega arith)
        | inr also ↦ let rest = not_above_both xs ys same.1 also.1 in let e = same.0 in cc
      ]
    ]

pub one_best : (setup hold : ℕ) (short orders : List ℕ) → IsBest setup hold short orders → orders ≡ best setup hold (needs short)
one_best setup hold short orders h =
    let it = best_is_best setup hold short in not_above_both orders (best setup hold (needs short)) (h.1 _ it.0) (it.1 orders h.0)

-- the first order of the best list is the least that some cheapest list begins with
first_is_low : (xs : List ℕ) (a : ℕ) (rest : List ℕ) → IsNotAbove xs (a ∷ rest) → first_order xs ≤ a
first_is_low [] a rest h = absurd h
first_is_low (x ∷ xs) a rest h = elim h [ inl less ↦ omega arith | inr same ↦ let e = same.0 in omega arith ]

first_alone : (setup hold : ℕ) (s : ℕ) (short : List ℕ) → (rest : List ℕ) × (best setup hold (needs (s ∷ short)) ≡ first_order (best setup hold (needs (s ∷ short))) ∷ rest)
first_alone setup hold s short = begins (s - 0) (needs_after (max 0 s) short)
  where
    begins : (n : ℕ) (wants : List ℕ) → (rest : List ℕ) × (best setup hold (n ∷ wants) ≡ first_order (best setup hold (n ∷ wants)) ∷ rest)
    begins zero wants = (best setup hold wants, refl)
    begins (suc n) wants = (best_after setup hold 1 wants, refl)

pub first_is_least : (setup hold s : ℕ) (short : List ℕ) → IsLeast (λ a. (rest : List ℕ) × IsCheapest setup hold (s ∷ short) (a ∷ rest)) (first_order (best setup hold (needs (s ∷ short))))
first_is_least setup hold s short =
    let it = best_is_best setup hold (s ∷ short) in
    let whole = first_alone setup hold s short in (
      (whole.0, subst (λ orders. IsCheapest setup hold (s ∷ short) orders) whole.1 it.0),
      λ b h. first_is_low (best setup hold (needs (s ∷ short))) b h.0 (it.1 (b ∷ h.0) h.1),
    )

-- the first order of a simple list covers what the first day is short of
pub first_enough : (setup hold s a : ℕ) (short : List ℕ) → IsLeast (λ b. (rest : List ℕ) × IsCheapest setup hold (s ∷ short) (b ∷ rest)) a → s ≤ a
first_enough setup hold s a short h = let simple = h.0.1.0 in let covers = (simple_covers (s ∷ short) (a ∷ h.0.0) simple).0 in omega arith
