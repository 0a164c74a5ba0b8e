-- The days of the plan.
use Rattle.std.proofs.Common.{◌≡◌, ℕ, ◌+◌, ◌<◌, Some, None, Ok, refl, ap, sym, ◌∙◌, lt-ltb, arith}
use Rattle.std.specs.Prelude.{codes, if◌then◌else◌}
use Rattle.plan_schema.specs.Day.{day_of, day_text, date_of, later}
use Rattle.plan_schema.proofs.DayLaws.{day_read_again}
use Rattle.plan_make.specs.Base.{first_day}

-- its text
first_text : day_text first_day ≡ codes "2025-03-03"
unfolding day_text date_of
first_text = refl

pub first_is : day_of (codes "2025-03-03") ≡ Ok first_day
first_is = ap day_of (sym first_text) ∙ day_read_again first_day refl

-- a day of the plan is one of the calendar's
pub later_is : (day : ℕ) → day < 60 → later first_day day ≡ Some (first_day + day)
unfolding later
later_is day few = let within : first_day + day < 36525 = omega arith in ap (λ b. if b then Some (first_day + day) else None) (lt-ltb _ _ within)
