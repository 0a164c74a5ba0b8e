-- Availability to promise (the exact form is this product's own).
use Rattle.std.specs.Prelude.{ℕ, ◌≤◌, min, List, [], ◌∷◌, drop}
use Rattle.std.specs.List.{AllByRecursion}
use Rattle.planning_rules.specs.Netting.{Lists}

-- q can be added as demand on a day whose balances, from that day to the end of the horizon, are given: each stays at 0 or above
abbrev pub CanPromise : List ℕ → ℕ → Type 0
CanPromise balances q = AllByRecursion (λ balance. q ≤ balance) balances

-- the greatest such q
abbrev pub IsPromise : List ℕ → ℕ → Type 0
IsPromise balances q = CanPromise balances q × ((r : ℕ) → CanPromise balances r → r ≤ q)

-- the least of some balances
abbrev pub least_of : List ℕ → ℕ
least_of [] = 0
least_of (b ∷ []) = b
least_of (b ∷ d ∷ more) = min b (least_of (d ∷ more))

-- what can be promised on day t: the least balance from that day on
abbrev pub promise_on : Lists → ℕ → ℕ
promise_on x t = least_of (drop t x.balance)
