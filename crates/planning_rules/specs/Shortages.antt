-- Shortages as signed numbers: below 0 where there is more than enough.
use Rattle.std.specs.Prelude.{ℕ, List, map, drop, pos, negsuc, ℤ, slice_index_or, ◌≤ℤ◌}
use Rattle.plan_schema.specs.declared.key.Lot.{Lot}
use Rattle.planning_rules.specs.Amounts.{IsAmount}

-- how much is short, and 0 where there is more than enough
abbrev pub shortage : ℤ → ℕ
shortage (pos n) = n
shortage (negsuc n) = 0

-- the amount of a lot rule for shortages of a day and the days after it
abbrev pub IsAmountFor : Lot → List ℤ → ℕ → Type 0
IsAmountFor rule short a = IsAmount rule (shortage (slice_index_or short 0 (pos 0))) (map shortage (drop 1 short)) a

-- between -10^18 and 10^18
abbrev pub InReach : ℤ → Type 0
InReach s = (negsuc 999999999999999999 ≤ℤ s) × (s ≤ℤ pos 1000000000000000000)
