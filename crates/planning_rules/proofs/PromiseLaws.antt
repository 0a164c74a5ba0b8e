-- The least balance is the greatest promise.
use Rattle.std.proofs.Common.{ℕ, ◌<◌, ◌≤◌, List, [], ◌∷◌, length, arith, min, le_refl}
use Rattle.planning_rules.specs.Promise.{CanPromise, least_of}
use Rattle.planning_rules.specs.Laws.{LeastIsPromise}

less_can : (q r : ℕ) → r ≤ q → (balances : List ℕ) → CanPromise balances q → CanPromise balances r
less_can q r le [] h = tt
less_can q r le (b ∷ more) h = let here : q ≤ b = h.0 in (omega arith, less_can q r le more h.1)

least_can : (balances : List ℕ) → CanPromise balances (least_of balances)
least_can [] = tt
least_can (b ∷ []) = (le_refl b, tt)
least_can (b ∷ d ∷ more) = (omega arith, less_can (least_of (d ∷ more)) (min b (least_of (d ∷ more))) (omega arith) (d ∷ more) (least_can (d ∷ more)))

no_more : (balances : List ℕ) → 0 < length balances → (r : ℕ) → CanPromise balances r → r ≤ least_of balances
no_more [] some r h = absurd (omega arith)
no_more (b ∷ []) some r h = h.0
no_more (b ∷ d ∷ more) some r h = let here : r ≤ b = h.0 in let rest : r ≤ least_of (d ∷ more) = no_more (d ∷ more) (omega arith) r h.1 in omega arith

pub least_is_promise : LeastIsPromise
least_is_promise balances some = (least_can balances, no_more balances some)
