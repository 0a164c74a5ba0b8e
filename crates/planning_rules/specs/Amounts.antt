-- Lot amounts: how much is ordered on a day that falls short, as the least amount that is enough (the exact forms are this
-- product's own).
use Rattle.std.specs.Prelude.{◌≡◌, ℕ, ◌+◌, ◌-◌, ◌*◌, ◌/◌, ◌≤◌, max, Bool, true, false, List, [], ◌∷◌, take}
use Rattle.std.specs.List.{AllByRecursion}
use Rattle.plan_schema.specs.declared.key.Lot.{Lot}
use Rattle.plan_schema.specs.declared.key.Lot.TheVariants.{Exact, Fixed, Least, Period, Best}
use Rattle.planning_rules.specs.BestLots.{IsCheapest, needs, best, first_order}

-- a is so many steps
abbrev pub IsMultiple : ℕ → ℕ → Type 0
IsMultiple step a = (n : ℕ) × (a ≡ n * step)

-- a satisfies P, and no smaller number does
abbrev pub IsLeast : (ℕ → Type 0) → ℕ → Type 0
IsLeast P a = P a × ((b : ℕ) → P b → a ≤ b)

-- a is enough under a lot rule, where the day is short of `short` and the days after it of `later`, each if nothing were planned:
-- lot for lot covers the day; a fixed order quantity is a multiple besides; a least quantity is a multiple of the step and at least
-- the least; a period order quantity covers each of so many days from the day on; a least-cost lot begins a simple list of orders that
-- costs the least for all that is short from the day on
abbrev pub IsEnough : Lot → ℕ → List ℕ → ℕ → Type 0
IsEnough Exact short later a = short ≤ a
IsEnough (Fixed q) short later a = (short ≤ a) × IsMultiple q a
IsEnough (Least least step) short later a = (max short least ≤ a) × IsMultiple step a
IsEnough (Period p) short later a = AllByRecursion (λ s. s ≤ a) (take p (short ∷ later))
IsEnough (Best setup hold) short later a = (rest : List ℕ) × IsCheapest setup hold (short ∷ later) (a ∷ rest)

-- the amount of a lot rule: the least that is enough
abbrev pub IsAmount : Lot → ℕ → List ℕ → ℕ → Type 0
IsAmount rule short later a = IsLeast (IsEnough rule short later) a

-- a least-cost lot
abbrev pub is_best : Lot → Bool
is_best (Best setup hold) = true
is_best Exact = false
is_best (Fixed q) = false
is_best (Least least step) = false
is_best (Period p) = false

-- the greatest of some numbers
abbrev pub greatest : List ℕ → ℕ
greatest [] = 0
greatest (s ∷ more) = max s (greatest more)

-- the least multiple of step that is at least s
abbrev pub rounded_up : ℕ → ℕ → ℕ
rounded_up step s = (s + (step - 1)) / step * step

-- the amount by a computation
abbrev pub amount : Lot → ℕ → List ℕ → ℕ
amount Exact short later = short
amount (Fixed q) short later = rounded_up q short
amount (Least least step) short later = rounded_up step (max short least)
amount (Period p) short later = greatest (take p (short ∷ later))
amount (Best setup hold) short later = first_order (best setup hold (needs (short ∷ later)))
