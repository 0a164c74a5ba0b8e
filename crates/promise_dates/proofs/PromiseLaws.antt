-- Promises made from the last day to the first, and the promise of one day.
use Rattle.std.proofs.Common.{◌≡◌, ℕ, zero, suc, ◌<◌, ◌≤◌, List, [], ◌∷◌, length, drop, get_or, min, refl, ap, arith}
use Rattle.std.proofs.Math.ListN.{set}
use Rattle.planning_rules.specs.Promise.{least_of}
use Rattle.promise_dates.specs.Promises.{promises}

-- the balances of the days before one, and the promises of the days from it on
abbrev pub lowered : ℕ → List ℕ → List ℕ
lowered zero balances = promises balances
lowered (suc day) [] = []
lowered (suc day) (balance ∷ more) = balance ∷ lowered day more

-- the promise of the last day is its balance
pub last_is : (day : ℕ) (balances : List ℕ) → length balances ≤ suc day → balances ≡ lowered day balances
last_is zero [] h = refl
last_is zero (balance ∷ []) h = refl
last_is zero (balance ∷ next ∷ more) h = absurd (omega arith)
last_is (suc day) [] h = refl
last_is (suc day) (balance ∷ more) h = ap (λ rest. balance ∷ rest) (last_is day more (omega arith))

-- one day more
pub one_lower : (day : ℕ) (balances : List ℕ) → suc day < length balances → set (lowered (suc day) balances) day (min (get_or (lowered (suc day) balances) day 0) (get_or (lowered (suc day) balances) (suc day) 0)) ≡ lowered day balances
one_lower day [] h = absurd (omega arith)
one_lower day (balance ∷ []) h = absurd (omega arith)
one_lower zero (balance ∷ next ∷ more) h = refl
one_lower (suc day) (balance ∷ next ∷ more) h = ap (λ rest. balance ∷ rest) (one_lower day (next ∷ more) (omega arith))

-- the promise of a day is the least balance from it on
pub promise_at : (balances : List ℕ) (day : ℕ) → get_or (promises balances) day 0 ≡ least_of (drop day balances)
promise_at [] zero = refl
promise_at [] (suc day) = refl
promise_at (balance ∷ more) zero = refl
promise_at (balance ∷ more) (suc day) = promise_at more day
