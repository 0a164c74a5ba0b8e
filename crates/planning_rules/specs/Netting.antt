-- Netting (Orlicky's record, with safety stock as a floor of the balance): the planned orders of a part, as a relation on whole
-- lists. There is no negative number: a day is short by what is asked up to it less what there is up to it, and `-` stops at 0.
use Rattle.std.specs.Prelude.{◌≡◌, ℕ, zero, suc, ◌+◌, ◌-◌, ◌*◌, ◌<◌, ◌≤◌, List, [], ◌∷◌, ◌++◌, Bool, ◌==◌, nat_lt, ◌||◌, if◌then◌else◌, length, take, map, slice_index, sum}
use Rattle.std.specs.List.{range_with_len, list_any}
use Rattle.plan_schema.specs.declared.key.Lot.{Lot}
pub use Rattle.plan_schema.specs.declared.outcome.Outcome.{Outcome as Lists}
use Rattle.plan_schema.specs.declared.key.Lot.TheVariants as lot
use Rattle.planning_rules.specs.Amounts.{IsAmount, amount}
use Rattle.planning_rules.specs.BestLots.{setup_of}
use Rattle.planning_rules.specs.Days.{back}

-- what a part's step starts from
pub record Input : Type 0 where
  pub stock : ℕ
  pub safety : ℕ
  pub lot : Lot
  pub lead : ℕ
  pub calendar : List Bool
  pub gross : List ℕ
  pub sched : List ℕ

-- all that is asked for up to day k, the safety stock with it
abbrev pub asked : Input → ℕ → ℕ
asked x k = x.safety + sum (take (suc k) x.gross)

-- all that there is up to day k, where orders of `made` in all are planned
abbrev pub there : Input → ℕ → ℕ → ℕ
there x made k = (x.stock + sum (take (suc k) x.sched)) + made

-- by how much day k falls short of safety, where orders of `made` in all are planned
abbrev pub short_on : Input → ℕ → ℕ → ℕ
short_on x made k = asked x k - there x made k

-- how many days the horizon has
abbrev pub days : Input → ℕ
days x = length x.gross

-- the shortages of the days after t
abbrev pub later : Input → ℕ → ℕ → List ℕ
later x made t = map (short_on x made) (range_with_len (suc t) (days x - suc t))

-- the order of day t, where the orders before it are `made` in all: none where safety is kept without one, else the lot's amount
pub record IsOrder (x : Input) (made t a : ℕ) : Type 0 where
  pub kept : short_on x made t ≡ 0 → a ≡ 0
  pub short : 0 < short_on x made t → IsAmount x.lot (short_on x made t) (later x made t) a

-- these are the orders of the first t days
pub record NettedTo (x : Input) (t : ℕ) (planned : List ℕ) : Type 0 where
  pub whole : length planned ≡ t
  pub each : (u : ℕ) → u < t → IsOrder x (sum (take u planned)) u (slice_index planned u)

-- these are the planned orders of an input
abbrev pub Netted : Input → List ℕ → Type 0
Netted x planned = NettedTo x (days x) planned

-- the balance at the end of day t
abbrev pub balance_on : Input → List ℕ → ℕ → ℕ
balance_on x planned t = there x (sum (take (suc t) planned)) t - sum (take (suc t) x.gross)

-- the projected balance of each day
abbrev pub balances : Input → List ℕ → List ℕ
balances x planned = map (balance_on x planned) (range_with_len 0 (days x))

-- what is released on day t: the sum of the planned orders whose release day it is
abbrev pub release_on : List Bool → ℕ → List ℕ → ℕ → ℕ
release_on calendar lead planned t = sum (map (λ u. if (back calendar u lead).0 == t then slice_index planned u else 0) (range_with_len 0 (length planned)))

abbrev pub releases : List Bool → ℕ → List ℕ → List ℕ
releases calendar lead planned = map (release_on calendar lead planned) (range_with_len 0 (length planned))

-- the sum of the planned orders that are late
abbrev pub late_sum : List Bool → ℕ → List ℕ → ℕ
late_sum calendar lead planned = sum (map (λ u. if (back calendar u lead).1 then slice_index planned u else 0) (range_with_len 0 (length planned)))

-- the greatest gross requirement, planned order or release that a part may have
abbrev pub limit : ℕ
limit = 1_000_000_000_000_000

-- some number exceeds the limit
abbrev pub exceeds : List ℕ → Bool
exceeds xs = list_any (λ n. nat_lt limit n) xs

-- whether a part's step is too large
abbrev pub is_too_large : Input → List ℕ → Bool
is_too_large x planned = exceeds x.gross || (exceeds planned || exceeds (releases x.calendar x.lead planned))

-- the planned order of day t by a computation
abbrev pub order_on : Input → ℕ → ℕ → ℕ
order_on x made t = if short_on x made t == 0 then 0 else amount x.lot (short_on x made t) (later x made t)

-- those of the first t days
abbrev pub planned_to : Input → ℕ → List ℕ
planned_to x zero = []
planned_to x (suc t) = planned_to x t ++ order_on x (sum (planned_to x t)) t ∷ []

abbrev pub planned_of : Input → List ℕ
planned_of x = planned_to x (days x)

-- the outcome of a part's step: gross requirements, scheduled receipts, planned order receipts, projected balance, planned order
-- releases, and the late sum
abbrev pub outcome_from : Input → List ℕ → Lists
outcome_from x planned = record { gross = x.gross; sched = x.sched; planned = planned; balance = balances x planned; release = releases x.calendar x.lead planned; late = late_sum x.calendar x.lead planned }

-- the numbers of a lot rule are at least 1 where a step or a period is meant
abbrev pub HasStep : Lot → Type 0
HasStep lot.Exact = Unit {0}
HasStep (lot.Fixed q) = 1 ≤ q
HasStep (lot.Least least more) = 1 ≤ more
HasStep (lot.Period p) = 1 ≤ p
HasStep (lot.Best setup hold) = Unit {0}

-- the shortages of all days, where nothing is planned
abbrev pub shortages_of : Input → List ℕ
shortages_of x = map (short_on x 0) (range_with_len 0 (days x))

-- orders that keep the balance of each day of the horizon at safety or above
abbrev pub KeepsSafety : Input → List ℕ → Type 0
KeepsSafety x orders = (length orders ≡ days x) × ((t : ℕ) → t < days x → short_on x (sum (take (suc t) orders)) t ≡ 0)

-- what orders cost where holding is counted on the balance above safety, from day t on, for n days, where the orders before are `made`
abbrev pub above_from : ℕ → ℕ → Input → ℕ → ℕ → List ℕ → ℕ
above_from setup hold x made t [] = 0
above_from setup hold x made t (q ∷ orders) = (setup_of setup q + hold * (there x (made + q) t - asked x t)) + above_from setup hold x (made + q) (suc t) orders
