-- Which days of a horizon a calendar works on.
use Rattle.std.specs.Prelude.{ℕ, ◌+◌, Bool, false, not, ◌&&◌, ◌==◌, List, map, slice_index_or}
use Rattle.std.specs.List.{range_with_len, list_any}
use Rattle.plan_schema.specs.Day.{weekday_of}

-- a date is one of the holidays
abbrev pub is_holiday : List ℕ → ℕ → Bool
is_holiday holidays date = list_any (λ holiday. holiday == date) holidays

-- a week works on a date that is no holiday where it works on its weekday
abbrev pub week_works : List Bool → List ℕ → ℕ → Bool
week_works week holidays date = slice_index_or week (weekday_of date) false && not (is_holiday holidays date)

-- whether each day of a horizon from `start` on works
abbrev pub worked_days : ℕ → ℕ → List Bool → List ℕ → List Bool
worked_days start days week holidays = map (λ t. week_works week holidays (start + t)) (range_with_len 0 days)
