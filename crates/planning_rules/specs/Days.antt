-- The horizon, the days on which dates count, working days, and the day on which an order is released.
use Rattle.std.specs.Prelude.{ℕ, zero, suc, ◌+◌, ◌-◌, List, [], ◌∷◌, Bool, true, false, ◌&&◌, ◌==◌, Option, Some, None, filter, slice_get, slice_index_or, is_none, unwrap_or, map}
use Rattle.std.specs.List.{range_with_len}
use Rattle.plan_schema.specs.declared.name.Name.{Name}
use Rattle.plan_schema.specs.declared.key.Key.TheVariants as keys
use Rattle.plan_schema.specs.declared.key.Record.{Record}
use Rattle.plan_schema.specs.declared.key.Record.TheVariants as records
use Rattle.plan_schema.specs.Day.{weekday_of}
use Rattle.plan_schema.specs.Contents.{Contents, record_at}

-- the first day of the horizon, and its number of days; days of the horizon are numbered from 0
abbrev pub horizon_of : Option Record → ℕ × ℕ
horizon_of (Some (records.Plan start days)) = (start, days)
horizon_of _ = (0, 0)

abbrev pub start_of : Contents → ℕ
start_of c = (horizon_of (record_at c keys.Plan)).0

abbrev pub days_of : Contents → ℕ
days_of c = (horizon_of (record_at c keys.Plan)).1

-- whether a date counts on day t of a horizon from `start` on (this product's own rule): a date before the start counts on day 0,
-- since `-` stops at 0; any other on its distance from the start
abbrev pub counts_on : ℕ → ℕ → ℕ → Bool
counts_on start date t = date - start == t

-- the days below u, the latest first
abbrev pub days_below : ℕ → List ℕ
days_below zero = []
days_below (suc u) = u ∷ days_below u

-- whether a calendar with this week works on a date: the week works on its weekday, and the date is no holiday
abbrev pub works_by : Contents → Name → Option Record → ℕ → Bool
works_by c name (Some (records.Cal week)) date = unwrap_or (slice_get week (weekday_of date)) false && is_none (record_at c (keys.Holiday name date))
works_by c name _ date = false

-- whether each day of the horizon works; without a calendar every day does
abbrev pub works : Contents → Option Name → List Bool
works c None = map (λ t. true) (range_with_len 0 (days_of c))
works c (Some name) = map (λ t. works_by c name (record_at c (keys.Cal name)) (start_of c + t)) (range_with_len 0 (days_of c))

abbrev pub works_on : List Bool → ℕ → Bool
works_on calendar day = slice_index_or calendar day false

-- the working days before u, the latest first
abbrev pub working_before : List Bool → ℕ → List ℕ
working_before calendar u = filter (works_on calendar) (days_below u)

-- the day itself, or day 0 and late where there is none
abbrev pub day_or_late : Option ℕ → ℕ × Bool
day_or_late (Some day) = (day, false)
day_or_late None = (0, true)

-- lead-time offset (Orlicky), with lead times in working days: the release day of a receipt on day u is u itself where the lead is
-- 0, else the lead-th latest working day before u; where there are fewer, it is day 0 and the order is late
abbrev pub back : List Bool → ℕ → ℕ → ℕ × Bool
back calendar u zero = (u, false)
back calendar u (suc lead) = day_or_late (slice_get (working_before calendar u) lead)
