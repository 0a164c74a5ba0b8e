-- Dates `YYYY-MM-DD` from 2000-01-01 to 2099-12-31. Days are numbered from 0, which is 2000-01-01, to 36,524.
use Rattle.std.specs.Prelude.{ℕ, zero, suc, ◌+◌, ◌-◌, ◌*◌, ◌≡◌, ◌≤◌, ◌/◌, ◌%◌, Bool, ◌&&◌, ◌==◌, nat_lt, nat_le, List, [], ◌∷◌, length, slice_index, Option, Some, None, Result, Ok, Err, if◌then◌else◌, pos, ◌-ℤ◌, unsigned_abs}
use Rattle.std.specs.Char.{is_ascii_digit}
use Rattle.jiff_core.specs.Calendar.{days_in_month, days_from_civil}
use Rattle.jiff_core.specs.declared.civil.date.Date.{Date as Plain}
use Rattle.plan_schema.specs.declared.fault.Rule.{Rule}
use Rattle.plan_schema.specs.declared.fault.Rule.TheVariants.{Shape, Date}

-- the number of a day
abbrev pub is_day : ℕ → Bool
is_day n = nat_lt n 36525

-- two digits stand at a place; and their number
abbrev pub has_digits_at : List ℕ → ℕ → Bool
has_digits_at text k = is_ascii_digit (slice_index text k) && is_ascii_digit (slice_index text (k + 1))

abbrev pub digits_at : List ℕ → ℕ → ℕ
digits_at text k = 10 * (slice_index text k - 48) + (slice_index text (k + 1) - 48)

-- four digits, `-`, two digits, `-`, two digits
abbrev pub has_date_form : List ℕ → Bool
has_date_form text =
    (length text == 10) && has_digits_at text 0 && has_digits_at text 2 && (slice_index text 4 == 45)
    && has_digits_at text 5 && (slice_index text 7 == 45) && has_digits_at text 8

-- a day of the calendar of these years
abbrev pub is_calendar_day : ℕ → ℕ → ℕ → Bool
is_calendar_day y m d = nat_le 2000 y && nat_le y 2099 && nat_le 1 m && nat_le m 12 && nat_le 1 d && nat_le d (days_in_month (pos y) m)

-- the days since 2000-01-01, whose number since 1970-01-01 is 10957
abbrev pub day_number : ℕ → ℕ → ℕ → ℕ
day_number y m d = unsigned_abs (days_from_civil (pos y) m d -ℤ pos 10957)

unfoldable pub day_in : ℕ → ℕ → ℕ → Result ℕ Rule
day_in y m d = if is_calendar_day y m d then Ok (day_number y m d) else Err Date

-- the day that a text names, or the rule that the text breaks
unfoldable pub day_of : List ℕ → Result ℕ Rule
day_of text = if has_date_form text then day_in (100 * digits_at text 0 + digits_at text 2) (digits_at text 5) (digits_at text 8) else Err Shape

-- the weekday, from 0 for Monday: 2000-01-01 was a Saturday
abbrev pub weekday_of : ℕ → ℕ
weekday_of n = (n + 5) % 7

pub record Civil : Type 0 where
  pub year : ℕ
  pub month : ℕ
  pub day : ℕ

abbrev pub day_after : Civil → Civil
day_after c =
    if nat_lt c.day (days_in_month (pos c.year) c.month) then record { year = c.year; month = c.month; day = c.day + 1 }
    else (if nat_lt c.month 12 then record { year = c.year; month = c.month + 1; day = 1 } else record { year = c.year + 1; month = 1; day = 1 })

-- the date of a day
unfoldable pub date_of : ℕ → Civil
date_of zero = record { year = 2000; month = 1; day = 1 }
date_of (suc n) = day_after (date_of n)

abbrev pub date_text : Civil → List ℕ
date_text c =
    (48 + c.year / 1000) ∷ (48 + c.year / 100 % 10) ∷ (48 + c.year / 10 % 10) ∷ (48 + c.year % 10) ∷ 45
    ∷ (48 + c.month / 10) ∷ (48 + c.month % 10) ∷ 45 ∷ (48 + c.day / 10) ∷ (48 + c.day % 10) ∷ []

-- a date has the parts of c, which is a day up to 2099
pub record HasParts (date : Plain) (c : Civil) : Type 0 where
  pub low : 2000 ≤ c.year
  pub high : c.year ≤ 2099
  pub year : date.year ≡ pos c.year
  pub month : date.month ≡ c.month
  pub day : date.day ≡ c.day

-- the text of a day
unfoldable pub day_text : ℕ → List ℕ
day_text n = date_text (date_of n)

-- the day so many days later, where it isn't past the last
unfoldable pub later : ℕ → ℕ → Option ℕ
later day days = if nat_lt (day + days) 36525 then Some (day + days) else None
