-- Least-cost lots, after Wagner and Whitin's dynamic lot sizing: the orders that cover what is short, what they cost, and the cheapest of
-- those that order only where something is needed (the exact form is this product's own). `short` is by how much each day falls short
-- if nothing is planned, and 0 where there is enough.
use Rattle.std.specs.Prelude.{◌≡◌, ℕ, zero, suc, ◌+◌, ◌-◌, ◌*◌, ◌<◌, ◌≤◌, ◌⊎◌, min, max, List, [], ◌∷◌, nat_le, if◌then◌else◌}

-- what each day needs: by how much its shortage passes the greatest shortage before it
abbrev pub needs_after : ℕ → List ℕ → List ℕ
needs_after most [] = []
needs_after most (s ∷ short) = (s - most) ∷ needs_after (max most s) short

abbrev pub needs : List ℕ → List ℕ
needs short = needs_after 0 short

-- orders are enough: on each day, what has been ordered up to it is at least its shortage
abbrev pub IsCoveredAfter : ℕ → List ℕ → List ℕ → Type 0
IsCoveredAfter made [] [] = Unit {0}
IsCoveredAfter made (s ∷ short) (q ∷ orders) = (s ≤ made + q) × IsCoveredAfter (made + q) short orders
IsCoveredAfter made [] (q ∷ orders) = ⊥
IsCoveredAfter made (s ∷ short) [] = ⊥

abbrev pub IsCovered : List ℕ → List ℕ → Type 0
IsCovered short orders = IsCoveredAfter 0 short orders

-- the setup of a day: none without an order
abbrev pub setup_of : ℕ → ℕ → ℕ
setup_of setup zero = 0
setup_of setup (suc q) = setup

-- what orders cost: a setup for each day with an order, and for each day the holding of what has been ordered past the greatest
-- shortage so far
abbrev pub cost_after : ℕ → ℕ → ℕ → ℕ → List ℕ → List ℕ → ℕ
cost_after setup hold made most (s ∷ short) (q ∷ orders) =
    (setup_of setup q + hold * ((made + q) - max most s)) + cost_after setup hold (made + q) (max most s) short orders
cost_after setup hold made most [] orders = 0
cost_after setup hold made most (s ∷ short) [] = 0

abbrev pub cost : ℕ → ℕ → List ℕ → List ℕ → ℕ
cost setup hold short orders = cost_after setup hold 0 0 short orders

-- what is needed before the next order
abbrev pub needed : List ℕ → List ℕ → ℕ
needed (n ∷ wants) (zero ∷ orders) = n + needed wants orders
needed (n ∷ wants) (suc q ∷ orders) = 0
needed (n ∷ wants) [] = 0
needed [] orders = 0

-- each order stands on a day with a need, and is what is needed from that day to before the next order
abbrev pub IsJust : List ℕ → List ℕ → Type 0
IsJust [] [] = Unit {0}
IsJust (n ∷ wants) (zero ∷ orders) = IsJust wants orders
IsJust (n ∷ wants) (suc q ∷ orders) = (0 < n) × (suc q ≡ n + needed wants orders) × IsJust wants orders
IsJust [] (q ∷ orders) = ⊥
IsJust (n ∷ wants) [] = ⊥

-- a simple list: such orders, and nothing is needed before the first of them
abbrev pub IsSimple : List ℕ → List ℕ → Type 0
IsSimple wants orders = (needed wants orders ≡ 0) × IsJust wants orders

-- a simple list of least cost
abbrev pub IsCheapest : ℕ → ℕ → List ℕ → List ℕ → Type 0
IsCheapest setup hold short orders =
    IsSimple (needs short) orders × ((other : List ℕ) → IsSimple (needs short) other → cost setup hold short orders ≤ cost setup hold short other)

-- the least cost of the needs from a day on, where the last order was made so many days before it: on a day with a need one orders anew,
-- or the need has waited in the last order since
abbrev pub least_after : ℕ → ℕ → ℕ → List ℕ → ℕ
least_after setup hold since [] = 0
least_after setup hold since (zero ∷ wants) = least_after setup hold (suc since) wants
least_after setup hold since (suc n ∷ wants) =
    min (setup + least_after setup hold 1 wants) (hold * (suc n * since) + least_after setup hold (suc since) wants)

-- the least cost of some needs: one orders on the first day with a need
abbrev pub least_cost : ℕ → ℕ → List ℕ → ℕ
least_cost setup hold [] = 0
least_cost setup hold (zero ∷ wants) = least_cost setup hold wants
least_cost setup hold (suc n ∷ wants) = setup + least_after setup hold 1 wants

-- the orders after the last one, which was made so many days before
abbrev pub best_after : ℕ → ℕ → ℕ → List ℕ → List ℕ
best_after setup hold since [] = []
best_after setup hold since (zero ∷ wants) = 0 ∷ best_after setup hold (suc since) wants
best_after setup hold since (suc n ∷ wants) =
    if nat_le (setup + least_after setup hold 1 wants) (hold * (suc n * since) + least_after setup hold (suc since) wants) then
    (suc n + needed wants (best_after setup hold 1 wants)) ∷ best_after setup hold 1 wants
    else 0 ∷ best_after setup hold (suc since) wants

-- the best orders for some needs
abbrev pub best : ℕ → ℕ → List ℕ → List ℕ
best setup hold [] = []
best setup hold (zero ∷ wants) = 0 ∷ best setup hold wants
best setup hold (suc n ∷ wants) = (suc n + needed wants (best_after setup hold 1 wants)) ∷ best_after setup hold 1 wants

-- the first of some orders
abbrev pub first_order : List ℕ → ℕ
first_order [] = 0
first_order (q ∷ orders) = q

-- one list of orders is another, or is less at the first order in which they differ
abbrev pub IsNotAbove : List ℕ → List ℕ → Type 0
IsNotAbove [] [] = Unit {0}
IsNotAbove (p ∷ orders) (q ∷ others) = (p < q) ⊎ ((p ≡ q) × IsNotAbove orders others)
IsNotAbove [] (q ∷ others) = ⊥
IsNotAbove (p ∷ orders) [] = ⊥

-- the best list: a simple list of least cost, and among several the one whose first order is least, and so on for the rest
abbrev pub IsBest : ℕ → ℕ → List ℕ → List ℕ → Type 0
IsBest setup hold short orders =
    IsCheapest setup hold short orders × ((other : List ℕ) → IsCheapest setup hold short other → IsNotAbove orders other)
