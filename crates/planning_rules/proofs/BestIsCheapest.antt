-- The best list is simple, it costs the least, and it stands before every other simple list of that cost.
use Rattle.std.proofs.Common.{◌≡◌, ℕ, zero, suc, ◌+◌, ◌*◌, ◌<◌, ◌≤◌, inl, inr, List, [], ◌∷◌, refl, sym, ◌∙◌, ap, subst, arith, true, false}
use Rattle.std.specs.Prelude.{nat_le}
use Rattle.std.proofs.lemmas.Bool.{cases_lt}
use Rattle.std.proofs.lemmas.Bool.Decides.{nat_tests}
use Rattle.planning_rules.specs.BestLots.{needed, IsJust, least_after, best_after, IsNotAbove}

-- an order above 0 ---------------------------------------------------------------------------------------------------------------------

pub just_ordered : (n q : ℕ) (wants orders : List ℕ) → 0 < n → q ≡ n + needed wants orders → IsJust wants orders → IsJust (n ∷ wants) (q ∷ orders)
just_ordered n zero wants orders h e just = absurd (omega arith)
just_ordered n (suc q) wants orders h e just = (h, e, just)

pub needed_ordered : (n q : ℕ) (wants orders : List ℕ) → 0 < q → needed (n ∷ wants) (q ∷ orders) ≡ 0
needed_ordered n zero wants orders h = absurd (omega arith)
needed_ordered n (suc q) wants orders h = refl

-- what orders cost by how long each need waits: the last order was made so many days before the first need
pub waiting_cost : ℕ → ℕ → ℕ → List ℕ → List ℕ → ℕ
waiting_cost setup hold since (n ∷ wants) (zero ∷ orders) = hold * (n * since) + waiting_cost setup hold (suc since) wants orders
waiting_cost setup hold since (n ∷ wants) (suc q ∷ orders) = setup + waiting_cost setup hold 1 wants orders
waiting_cost setup hold since (n ∷ wants) [] = 0
waiting_cost setup hold since [] orders = 0

pub cost_waits : (setup hold since n : ℕ) (wants orders : List ℕ) → waiting_cost setup hold since (n ∷ wants) (0 ∷ orders) ≡ hold * (n * since) + waiting_cost setup hold (suc since) wants orders
unfolding waiting_cost
cost_waits setup hold since n wants orders = refl

pub cost_orders : (setup hold since n q : ℕ) (wants orders : List ℕ) → 0 < q → waiting_cost setup hold since (n ∷ wants) (q ∷ orders) ≡ setup + waiting_cost setup hold 1 wants orders
unfolding waiting_cost
cost_orders setup hold since n zero wants orders h = absurd (omega arith)
cost_orders setup hold since n (suc q) wants orders h = refl

pub cost_ends : (setup hold since : ℕ) (orders : List ℕ) → waiting_cost setup hold since [] orders ≡ 0
unfolding waiting_cost
cost_ends setup hold since orders = refl

-- where the best list orders, and where it waits
pub best_orders : (setup hold since n : ℕ) (wants : List ℕ) → setup + least_after setup hold 1 wants ≤ hold * (suc n * since) + least_after setup hold (suc since) wants
    → best_after setup hold since (suc n ∷ wants) ≡ (suc n + needed wants (best_after setup hold 1 wants)) ∷ best_after setup hold 1 wants
best_orders setup hold since n wants h =
    let t : nat_le (setup + least_after setup hold 1 wants) (hold * (suc n * since) + least_after setup hold (suc since) wants) ≡ true = grind (arith, nat_tests) in rw t refl

pub best_waits : (setup hold since n : ℕ) (wants : List ℕ) → hold * (suc n * since) + least_after setup hold (suc since) wants < setup + least_after setup hold 1 wants
    → best_after setup hold since (suc n ∷ wants) ≡ 0 ∷ best_after setup hold (suc since) wants
best_waits setup hold since n wants h =
    let t : nat_le (setup + least_after setup hold 1 wants) (hold * (suc n * since) + least_after setup hold (suc since) wants) ≡ false = grind (arith, nat_tests) in rw t refl

-- the best orders after the last -------------------------------------------------------------------------------------------------------

pub best_after_just : (setup hold since : ℕ) (wants : List ℕ) → IsJust wants (best_after setup hold since wants)
best_after_just setup hold since [] = tt
best_after_just setup hold since (zero ∷ wants) = best_after_just setup hold (suc since) wants
best_after_just setup hold since (suc n ∷ wants) =
    let anew = best_after_just setup hold 1 wants in
    let waits = best_after_just setup hold (suc since) wants in
    elim (cases_lt (hold * (suc n * since) + least_after setup hold (suc since) wants) (setup + least_after setup hold 1 wants)) [
      | inl less ↦ subst (λ orders. IsJust (suc n ∷ wants) orders) (sym (best_waits setup hold since n wants less)) waits
      | inr no_less ↦
          subst (λ orders. IsJust (suc n ∷ wants) orders) (sym (best_orders setup hold since n wants no_less))
          (just_ordered (suc n) (suc n + needed wants (best_after setup hold 1 wants)) wants (best_after setup hold 1 wants) (omega arith) refl anew)
    ]

pub best_after_costs : (setup hold since : ℕ) (wants : List ℕ) → waiting_cost setup hold since wants (best_after setup hold since wants) ≡ least_after setup hold since wants
best_after_costs setup hold since [] = cost_ends setup hold since []
best_after_costs setup hold since (zero ∷ wants) =
    let rest = best_after_costs setup hold (suc since) wants in let here = cost_waits setup hold since 0 wants (best_after setup hold (suc since) wants) in omega arith
best_after_costs setup hold since (suc n ∷ wants) =
    let anew = best_after_costs setup hold 1 wants in
    let waits = best_after_costs setup hold (suc since) wants in
    elim (cases_lt (hold * (suc n * since) + least_after setup hold (suc since) wants) (setup + least_after setup hold 1 wants)) [
      | inl less ↦
          ap (waiting_cost setup hold since (suc n ∷ wants)) (best_waits setup hold since n wants less) ∙ cost_waits setup hold since (suc n) wants (best_after setup hold (suc since) wants)
          ∙ omega arith
      | inr no_less ↦
          ap (waiting_cost setup hold since (suc n ∷ wants)) (best_orders setup hold since n wants no_less)
          ∙ cost_orders setup hold since (suc n) (suc n + needed wants (best_after setup hold 1 wants)) wants (best_after setup hold 1 wants) (omega arith) ∙ omega arith
    ]

-- no such orders cost less
pub just_costs : (setup hold since : ℕ) (wants orders : List ℕ) → IsJust wants orders → least_after setup hold since wants ≤ waiting_cost setup hold since wants orders
just_costs setup hold since [] [] h = omega arith
just_costs setup hold since [] (q ∷ orders) h = absurd h
just_costs setup hold since (n ∷ wants) [] h = absurd h
just_costs setup hold since (zero ∷ wants) (zero ∷ orders) h =
    let rest = just_costs setup hold (suc since) wants orders h in let here = cost_waits setup hold since 0 wants orders in omega arith
just_costs setup hold since (suc n ∷ wants) (zero ∷ orders) h =
    let rest = just_costs setup hold (suc since) wants orders h in let here = cost_waits setup hold since (suc n) wants orders in omega arith
just_costs setup hold since (zero ∷ wants) (suc q ∷ orders) h = let never : 0 < 0 = h.0 in absurd (omega arith)
just_costs setup hold since (suc n ∷ wants) (suc q ∷ orders) h =
    let rest = just_costs setup hold 1 wants orders h.2 in let here = cost_orders setup hold since (suc n) (suc q) wants orders (omega arith) in omega arith

-- the same number added to both first orders
pub more_alike : (n a b : ℕ) (xs ys : List ℕ) → IsNotAbove (a ∷ xs) (b ∷ ys) → IsNotAbove ((n + a) ∷ xs) ((n + b) ∷ ys)
more_alike n a b xs ys h = elim h [ inl less ↦ inl (omega arith) | inr same ↦ inr (ap (λ k. n + k) same.0, same.1) ]

wait_alike : (n a b : ℕ) (xs ys : List ℕ) → IsNotAbove (a ∷ xs) (b ∷ ys) → IsNotAbove ((n + a) ∷ 0 ∷ xs) ((n + b) ∷ 0 ∷ ys)
wait_alike n a b xs ys h = elim h [ inl less ↦ inl (omega arith) | inr same ↦ inr (ap (λ k. n + k) same.0, inr (refl, same.1)) ]

-- orders of least cost stand after the best, what is needed before them counted first
pub best_after_first : (setup hold since : ℕ) (wants orders : List ℕ) → IsJust wants orders → waiting_cost setup hold since wants orders ≤ least_after setup hold since wants
    → IsNotAbove (needed wants (best_after setup hold since wants) ∷ best_after setup hold since wants) (needed wants orders ∷ orders)
best_after_first setup hold since [] [] h low = inr (refl, tt)
best_after_first setup hold since [] (q ∷ orders) h low = absurd h
best_after_first setup hold since (n ∷ wants) [] h low = absurd h
best_after_first setup hold since (zero ∷ wants) (zero ∷ orders) h low =
    let here = cost_waits setup hold since 0 wants orders in
    wait_alike 0 _ _ _ _ (best_after_first setup hold (suc since) wants orders h (omega arith))
best_after_first setup hold since (zero ∷ wants) (suc q ∷ orders) h low = let never : 0 < 0 = h.0 in absurd (omega arith)
best_after_first setup hold since (suc n ∷ wants) (zero ∷ orders) h low =
    let here = cost_waits setup hold since (suc n) wants orders in
    let least = just_costs setup hold (suc since) wants orders h in
    elim (cases_lt (hold * (suc n * since) + least_after setup hold (suc since) wants) (setup + least_after setup hold 1 wants)) [
      | inl less ↦
          rw (best_waits setup hold since n wants less) (wait_alike (suc n) _ _ _ _ (best_after_first setup hold (suc since) wants orders h (omega arith)))
      | inr no_less ↦
          rw (best_orders setup hold since n wants no_less)
          (inl (let none = needed_ordered (suc n) (suc n + needed wants (best_after setup hold 1 wants)) wants (best_after setup hold 1 wants) (omega arith) in omega arith))
    ]
best_after_first setup hold since (suc n ∷ wants) (suc q ∷ orders) h low =
    let here = cost_orders setup hold since (suc n) (suc q) wants orders (omega arith) in
    let least = just_costs setup hold 1 wants orders h.2 in
    elim (cases_lt (hold * (suc n * since) + least_after setup hold (suc since) wants) (setup + least_after setup hold 1 wants)) [
      | inl less ↦ absurd (omega arith)
      | inr no_less ↦
          rw (best_orders setup hold since n wants no_less)
          (inr (
            needed_ordered (suc n) (suc n + needed wants (best_after setup hold 1 wants)) wants (best_after setup hold 1 wants) (omega arith),
            subst (λ k. IsNotAbove ((suc n + needed wants (best_after setup hold 1 wants)) ∷ best_after setup hold 1 wants) (k ∷ orders)) (sym h.1)
                (more_alike (suc n) _ _ _ _ (best_after_first setup hold 1 wants orders h.2 (omega arith))),
          ))
    ]
