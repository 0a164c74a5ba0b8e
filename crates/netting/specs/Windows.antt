-- How far a lot rule looks ahead.
use Rattle.std.specs.Prelude.{ℕ, min}
use Rattle.plan_schema.specs.declared.key.Lot.{Lot}
use Rattle.plan_schema.specs.declared.key.Lot.TheVariants.{Exact, Fixed, Least, Period, Best}

-- how many days a lot rule looks at, of those that are left from a day on: a period order quantity at so many, a least-cost
-- lot at all, any other at the day alone
abbrev pub looked : Lot → ℕ → ℕ
looked Exact left = 1
looked (Fixed q) left = 1
looked (Least least step) left = 1
looked (Period p) left = min left p
looked (Best setup hold) left = left
