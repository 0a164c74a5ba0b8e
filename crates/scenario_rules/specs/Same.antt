-- Whether two records are the same, by table and by fields.
use Rattle.std.specs.Prelude.{Bool, true, false, not, ◌&&◌, ◌==◌, if◌then◌else◌, List, [], ◌∷◌, Option, Some, None}
use Rattle.plan_schema.specs.declared.key.Lot.{Lot}
use Rattle.plan_schema.specs.declared.key.Lot.TheVariants.{Exact, Fixed, Least, Period, Best}
use Rattle.plan_schema.specs.declared.key.Span.{Span}
use Rattle.plan_schema.specs.declared.key.Record.{Record}
use Rattle.plan_schema.specs.declared.key.Record.TheVariants as records
use Rattle.plan_schema.specs.Key.{name_eq}

-- two values that may be missing are the same: both are missing, or both are there and the same
abbrev pub same_option : {A : Type 0} → (A → A → Bool) → Option A → Option A → Bool
same_option same None None = true
same_option same (Some a) (Some b) = same a b
same_option same _ _ = false

-- two weeks work on the same weekdays
abbrev pub same_week : List Bool → List Bool → Bool
same_week [] [] = true
same_week (works ∷ week) (other ∷ others) = (if works then other else not other) && same_week week others
same_week _ _ = false

abbrev pub same_lot : Lot → Lot → Bool
same_lot Exact Exact = true
same_lot (Fixed qty) (Fixed other) = qty == other
same_lot (Least least step) (Least other_least other_step) = (least == other_least) && (step == other_step)
same_lot (Period days) (Period other) = days == other
same_lot (Best setup hold) (Best other_setup other_hold) = (setup == other_setup) && (hold == other_hold)
same_lot _ _ = false

abbrev pub same_span : Span → Span → Bool
same_span a b = (a.from == b.from) && (a.to == b.to)

-- two records are the same: they are of one table, and each field is the same
abbrev pub same_record : Record → Record → Bool
same_record (records.Plan start days) (records.Plan other_start other_days) = (start == other_start) && (days == other_days)
same_record (records.Cal week) (records.Cal other) = same_week week other
same_record records.Holiday records.Holiday = true
same_record (records.Part lead lot safety calendar) (records.Part other_lead other_lot other_safety other_calendar) =
    (lead == other_lead) && (same_lot lot other_lot && ((safety == other_safety) && same_option name_eq calendar other_calendar))
same_record (records.Stock qty) (records.Stock other) = qty == other
same_record (records.Demand day qty) (records.Demand other_day other_qty) = (day == other_day) && (qty == other_qty)
same_record (records.Receipt day qty) (records.Receipt other_day other_qty) = (day == other_day) && (qty == other_qty)
same_record (records.Bill per span) (records.Bill other_per other_span) = (per == other_per) && same_option same_span span other_span
same_record _ _ = false
