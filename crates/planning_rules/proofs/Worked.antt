-- Worked examples, by computation: plans, levels, pegs, promises and refusals of small bases.
use Rattle.std.specs.Prelude.{◌≡◌, ℕ, List, [], ◌∷◌, ◌++◌, true, false, Option, Some, None, map, codes}
use Rattle.std.specs.List.{range_with_len}
use Rattle.std.proofs.Common.{refl}
use Rattle.plan_schema.specs.declared.name.Name.{Name}
use Rattle.plan_schema.specs.declared.key.Key.{Key}
use Rattle.plan_schema.specs.declared.key.Key.TheVariants as keys
use Rattle.plan_schema.specs.declared.key.Lot.{Lot}
use Rattle.plan_schema.specs.declared.key.Lot.TheVariants as lots
use Rattle.plan_schema.specs.declared.key.Span.{Span}
use Rattle.plan_schema.specs.declared.key.Record.{Record}
use Rattle.plan_schema.specs.declared.key.Record.TheVariants as records
use Rattle.plan_schema.specs.declared.refusal.Refusal.TheVariants as refusals
use Rattle.plan_schema.specs.Contents.{Contents}
use Rattle.planning_rules.specs.Bills.{parents, level}
use Rattle.planning_rules.specs.Netting.{Lists}
use Rattle.planning_rules.specs.Plan.{Planned, plan}
use Rattle.planning_rules.specs.Refused.{plan_refusal, level_refusal}
use Rattle.planning_rules.specs.Pegs.{FromDemand, FromParent, pegs, no_day}
use Rattle.planning_rules.specs.Promise.{promise_on}

-- names; day 9193 is 2025-03-03, a Monday
abbrev a : Name
a = codes "A"

abbrev b : Name
b = codes "B"

abbrev c : Name
c = codes "C"

abbrev q : Name
q = codes "Q"

abbrev w : Name
w = codes "W"

abbrev z : Name
z = codes "Z"

abbrev d1 : Name
d1 = codes "D1"

-- part A with 30 on hand and these demands, in a horizon of five days
abbrev a_part : Record → List (Key × Record) → Contents
a_part part demands = (keys.Plan, records.Plan 9193 5) ∷ (keys.Part a, part) ∷ (keys.Stock a, records.Stock 30) ∷ demands

abbrev asked_on : ℕ → ℕ → List (Key × Record)
asked_on day qty = (keys.Demand a d1, records.Demand day qty) ∷ []

-- part A with a lead of two days, ordered by a lot rule; 50 of it are asked for on the third day
abbrev with_lot : Lot → Contents
with_lot lot = a_part (records.Part 2 lot 0 None) (asked_on 9195 50)

-- one part --------------------------------------------------------------------------------------------------------------------------------

lot_for_lot_orders_what_is_short : plan (with_lot lots.Exact) a ≡ Some (Planned (record {
  gross = 0 ∷ 0 ∷ 50 ∷ 0 ∷ 0 ∷ [];
  sched = 0 ∷ 0 ∷ 0 ∷ 0 ∷ 0 ∷ [];
  planned = 0 ∷ 0 ∷ 20 ∷ 0 ∷ 0 ∷ [];
  balance = 30 ∷ 30 ∷ 0 ∷ 0 ∷ 0 ∷ [];
  release = 20 ∷ 0 ∷ 0 ∷ 0 ∷ 0 ∷ [];
  late = 0;
}))
lot_for_lot_orders_what_is_short = refl

a_lead_before_the_horizon_is_late : plan (a_part (records.Part 3 lots.Exact 0 None) (asked_on 9195 50)) a ≡ Some (Planned (record {
  gross = 0 ∷ 0 ∷ 50 ∷ 0 ∷ 0 ∷ [];
  sched = 0 ∷ 0 ∷ 0 ∷ 0 ∷ 0 ∷ [];
  planned = 0 ∷ 0 ∷ 20 ∷ 0 ∷ 0 ∷ [];
  balance = 30 ∷ 30 ∷ 0 ∷ 0 ∷ 0 ∷ [];
  release = 20 ∷ 0 ∷ 0 ∷ 0 ∷ 0 ∷ [];
  late = 20;
}))
a_lead_before_the_horizon_is_late = refl

-- an order of 30 for a shortage of 20
abbrev thirty_ordered : Lists
thirty_ordered = record {
  gross = 0 ∷ 0 ∷ 50 ∷ 0 ∷ 0 ∷ [];
  sched = 0 ∷ 0 ∷ 0 ∷ 0 ∷ 0 ∷ [];
  planned = 0 ∷ 0 ∷ 30 ∷ 0 ∷ 0 ∷ [];
  balance = 30 ∷ 30 ∷ 10 ∷ 10 ∷ 10 ∷ [];
  release = 30 ∷ 0 ∷ 0 ∷ 0 ∷ 0 ∷ [];
  late = 0;
}

a_fixed_quantity_is_ordered_in_multiples : plan (with_lot (lots.Fixed 15)) a ≡ Some (Planned thirty_ordered)
a_fixed_quantity_is_ordered_in_multiples = refl

a_least_quantity_is_rounded_up : plan (with_lot (lots.Least 25 10)) a ≡ Some (Planned thirty_ordered)
a_least_quantity_is_rounded_up = refl

a_period_orders_for_its_days_together : plan (a_part (records.Part 2 (lots.Period 3) 0 None)
    (asked_on 9195 50 ++ (keys.Demand a (codes "D2"), records.Demand 9196 10) ∷ (keys.Demand a (codes "D3"), records.Demand 9197 10) ∷ [])) a ≡ Some (Planned (record {
      gross = 0 ∷ 0 ∷ 50 ∷ 10 ∷ 10 ∷ [];
      sched = 0 ∷ 0 ∷ 0 ∷ 0 ∷ 0 ∷ [];
      planned = 0 ∷ 0 ∷ 40 ∷ 0 ∷ 0 ∷ [];
      balance = 30 ∷ 30 ∷ 20 ∷ 10 ∷ 0 ∷ [];
      release = 40 ∷ 0 ∷ 0 ∷ 0 ∷ 0 ∷ [];
      late = 0;
    }))
a_period_orders_for_its_days_together = refl

what_is_on_hand_is_not_ordered : plan (a_part (records.Part 2 lots.Exact 0 None) (asked_on 9195 30)) a ≡ Some (Planned (record {
  gross = 0 ∷ 0 ∷ 30 ∷ 0 ∷ 0 ∷ [];
  sched = 0 ∷ 0 ∷ 0 ∷ 0 ∷ 0 ∷ [];
  planned = 0 ∷ 0 ∷ 0 ∷ 0 ∷ 0 ∷ [];
  balance = 30 ∷ 30 ∷ 0 ∷ 0 ∷ 0 ∷ [];
  release = 0 ∷ 0 ∷ 0 ∷ 0 ∷ 0 ∷ [];
  late = 0;
}))
what_is_on_hand_is_not_ordered = refl

one_more_is : plan (a_part (records.Part 2 lots.Exact 0 None) (asked_on 9195 31)) a ≡ Some (Planned (record {
  gross = 0 ∷ 0 ∷ 31 ∷ 0 ∷ 0 ∷ [];
  sched = 0 ∷ 0 ∷ 0 ∷ 0 ∷ 0 ∷ [];
  planned = 0 ∷ 0 ∷ 1 ∷ 0 ∷ 0 ∷ [];
  balance = 30 ∷ 30 ∷ 0 ∷ 0 ∷ 0 ∷ [];
  release = 1 ∷ 0 ∷ 0 ∷ 0 ∷ 0 ∷ [];
  late = 0;
}))
one_more_is = refl

a_demand_past_due_counts_on_the_first_day : plan (a_part (records.Part 2 lots.Exact 0 None) (asked_on 9163 50)) a ≡ Some (Planned (record {
  gross = 50 ∷ 0 ∷ 0 ∷ 0 ∷ 0 ∷ [];
  sched = 0 ∷ 0 ∷ 0 ∷ 0 ∷ 0 ∷ [];
  planned = 20 ∷ 0 ∷ 0 ∷ 0 ∷ 0 ∷ [];
  balance = 0 ∷ 0 ∷ 0 ∷ 0 ∷ 0 ∷ [];
  release = 20 ∷ 0 ∷ 0 ∷ 0 ∷ 0 ∷ [];
  late = 20;
}))
a_demand_past_due_counts_on_the_first_day = refl

-- calendars: 5 of A are asked for on the second Monday, with a lead of one working day; W works from Monday to Friday
abbrev with_week : List (Key × Record) → Contents
with_week holidays =
    (keys.Plan, records.Plan 9193 14)
    ∷ (keys.Cal w, records.Cal (true ∷ true ∷ true ∷ true ∷ true ∷ false ∷ false ∷ []))
    ∷ (holidays ++ (keys.Part a, records.Part 1 lots.Exact 0 (Some w)) ∷ (keys.Demand a d1, records.Demand 9200 5) ∷ [])

-- what is planned on the second Monday, and released on these days
abbrev released_as : List ℕ → Lists
released_as release = record {
  gross = 0 ∷ 0 ∷ 0 ∷ 0 ∷ 0 ∷ 0 ∷ 0 ∷ 5 ∷ 0 ∷ 0 ∷ 0 ∷ 0 ∷ 0 ∷ 0 ∷ [];
  sched = 0 ∷ 0 ∷ 0 ∷ 0 ∷ 0 ∷ 0 ∷ 0 ∷ 0 ∷ 0 ∷ 0 ∷ 0 ∷ 0 ∷ 0 ∷ 0 ∷ [];
  planned = 0 ∷ 0 ∷ 0 ∷ 0 ∷ 0 ∷ 0 ∷ 0 ∷ 5 ∷ 0 ∷ 0 ∷ 0 ∷ 0 ∷ 0 ∷ 0 ∷ [];
  balance = 0 ∷ 0 ∷ 0 ∷ 0 ∷ 0 ∷ 0 ∷ 0 ∷ 0 ∷ 0 ∷ 0 ∷ 0 ∷ 0 ∷ 0 ∷ 0 ∷ [];
  release = release;
  late = 0;
}

the_weekend_is_no_lead : plan (with_week []) a ≡ Some (Planned (released_as (0 ∷ 0 ∷ 0 ∷ 0 ∷ 5 ∷ 0 ∷ 0 ∷ 0 ∷ 0 ∷ 0 ∷ 0 ∷ 0 ∷ 0 ∷ 0 ∷ [])))
the_weekend_is_no_lead = refl

nor_is_a_holiday : plan (with_week ((keys.Holiday w 9197, records.Holiday) ∷ [])) a ≡ Some (Planned (released_as (0 ∷ 0 ∷ 0 ∷ 5 ∷ 0 ∷ 0 ∷ 0 ∷ 0 ∷ 0 ∷ 0 ∷ 0 ∷ 0 ∷ 0 ∷ 0 ∷ [])))
nor_is_a_holiday = refl

-- a part and its component -----------------------------------------------------------------------------------------------------------------

-- three of B to each A, the bill effective on these days; C stands apart
abbrev with_component : Option Span → Contents
with_component span =
    (keys.Plan, records.Plan 9193 5)
    ∷ (keys.Part a, records.Part 2 lots.Exact 0 None)
    ∷ (keys.Part b, records.Part 1 lots.Exact 0 None)
    ∷ (keys.Part c, records.Part 0 lots.Exact 0 None)
    ∷ (keys.Stock a, records.Stock 30)
    ∷ (keys.Demand a d1, records.Demand 9195 50)
    ∷ (keys.Bill a b, records.Bill 3 span)
    ∷ []

abbrev sixty_late : Lists
sixty_late = record {
  gross = 60 ∷ 0 ∷ 0 ∷ 0 ∷ 0 ∷ [];
  sched = 0 ∷ 0 ∷ 0 ∷ 0 ∷ 0 ∷ [];
  planned = 60 ∷ 0 ∷ 0 ∷ 0 ∷ 0 ∷ [];
  balance = 0 ∷ 0 ∷ 0 ∷ 0 ∷ 0 ∷ [];
  release = 60 ∷ 0 ∷ 0 ∷ 0 ∷ 0 ∷ [];
  late = 60;
}

abbrev nothing : Lists
nothing = record {
  gross = 0 ∷ 0 ∷ 0 ∷ 0 ∷ 0 ∷ [];
  sched = 0 ∷ 0 ∷ 0 ∷ 0 ∷ 0 ∷ [];
  planned = 0 ∷ 0 ∷ 0 ∷ 0 ∷ 0 ∷ [];
  balance = 0 ∷ 0 ∷ 0 ∷ 0 ∷ 0 ∷ [];
  release = 0 ∷ 0 ∷ 0 ∷ 0 ∷ 0 ∷ [];
  late = 0;
}

a_release_asks_for_the_component : plan (with_component None) b ≡ Some (Planned sixty_late)
a_release_asks_for_the_component = refl

the_component_is_one_level_down : level (with_component None) b ≡ Some 1
the_component_is_one_level_down = refl

it_is_pegged_to_the_parent : pegs (with_component None) b 0 ≡ FromParent a 60 ∷ []
it_is_pegged_to_the_parent = refl

the_parent_is_pegged_to_the_demand : pegs (with_component None) a 2 ≡ FromDemand d1 50 ∷ []
the_parent_is_pegged_to_the_demand = refl

the_last_day_is_in_the_horizon : no_day (with_component None) 9197 ≡ None
the_last_day_is_in_the_horizon = refl

the_next_is_not : no_day (with_component None) 9198 ≡ Some (refusals.NoDay 9198)
the_next_is_not = refl

nor_is_the_day_before : no_day (with_component None) 9192 ≡ Some (refusals.NoDay 9192)
nor_is_the_day_before = refl

nothing_is_planned_of_what_nobody_asks_for : plan (with_component None) c ≡ Some (Planned nothing)
nothing_is_planned_of_what_nobody_asks_for = refl

these_plans_are_not_refused : plan_refusal (with_component None) (c ∷ b ∷ []) ≡ None
these_plans_are_not_refused = refl

a_name_without_a_part_is_no_part : plan_refusal (with_component None) (q ∷ []) ≡ Some (refusals.NoPart q)
a_name_without_a_part_is_no_part = refl

-- a bill counts on the days of its span alone ----------------------------------------------------------------------------------------------

-- from the second day to the end of the month
abbrev too_late : Option Span
too_late = Some (record { from = 9194; to = 9221 })

-- the first day alone
abbrev just_then : Option Span
just_then = Some (record { from = 9193; to = 9193 })

a_bill_that_begins_after_the_release_asks_for_nothing : plan (with_component too_late) b ≡ Some (Planned nothing)
a_bill_that_begins_after_the_release_asks_for_nothing = refl

and_pegs_nothing : pegs (with_component too_late) b 0 ≡ []
and_pegs_nothing = refl

but_it_makes_a_parent : parents (with_component too_late) b ≡ a ∷ []
but_it_makes_a_parent = refl

and_a_level : level (with_component too_late) b ≡ Some 1
and_a_level = refl

a_bill_of_the_day_of_the_release_counts : plan (with_component just_then) b ≡ Some (Planned sixty_late)
a_bill_of_the_day_of_the_release_counts = refl

and_pegs_the_parent : pegs (with_component just_then) b 0 ≡ FromParent a 60 ∷ []
and_pegs_the_parent = refl

-- cycles -----------------------------------------------------------------------------------------------------------------------------------

-- A and B are components of each other, Z is one of B; C stands apart
abbrev with_cycle : Contents
with_cycle =
    (keys.Plan, records.Plan 9193 5)
    ∷ (keys.Part a, records.Part 2 lots.Exact 0 None)
    ∷ (keys.Part b, records.Part 0 lots.Exact 0 None)
    ∷ (keys.Part c, records.Part 0 lots.Exact 0 None)
    ∷ (keys.Part z, records.Part 0 lots.Exact 0 None)
    ∷ (keys.Stock a, records.Stock 30)
    ∷ (keys.Demand a d1, records.Demand 9195 50)
    ∷ (keys.Bill a b, records.Bill 1 None)
    ∷ (keys.Bill b a, records.Bill 1 None)
    ∷ (keys.Bill b z, records.Bill 1 None)
    ∷ []

a_part_below_a_cycle_is_not_planned : plan_refusal with_cycle (z ∷ []) ≡ Some (refusals.Cyclic a)
a_part_below_a_cycle_is_not_planned = refl

nor_has_it_a_level : level with_cycle z ≡ None
nor_has_it_a_level = refl

which_is_refused : level_refusal with_cycle z ≡ Some (refusals.Cyclic a)
which_is_refused = refl

a_part_apart_from_it_is_planned : plan_refusal with_cycle (c ∷ []) ≡ None
a_part_apart_from_it_is_planned = refl

-- numbers that are too large ---------------------------------------------------------------------------------------------------------------

-- a million of B to each A, and a million of C to each B
abbrev with_millions : Contents
with_millions =
    (keys.Plan, records.Plan 9193 5)
    ∷ (keys.Part a, records.Part 0 lots.Exact 0 None)
    ∷ (keys.Part b, records.Part 0 lots.Exact 0 None)
    ∷ (keys.Part c, records.Part 0 lots.Exact 0 None)
    ∷ (keys.Demand a d1, records.Demand 9195 1_000_000_000)
    ∷ (keys.Bill a b, records.Bill 1_000_000 None)
    ∷ (keys.Bill b c, records.Bill 1_000_000 None)
    ∷ []

the_limit_itself_is_planned : plan with_millions b ≡ Some (Planned (record {
  gross = 0 ∷ 0 ∷ 1_000_000_000_000_000 ∷ 0 ∷ 0 ∷ [];
  sched = 0 ∷ 0 ∷ 0 ∷ 0 ∷ 0 ∷ [];
  planned = 0 ∷ 0 ∷ 1_000_000_000_000_000 ∷ 0 ∷ 0 ∷ [];
  balance = 0 ∷ 0 ∷ 0 ∷ 0 ∷ 0 ∷ [];
  release = 0 ∷ 0 ∷ 1_000_000_000_000_000 ∷ 0 ∷ 0 ∷ [];
  late = 0;
}))
the_limit_itself_is_planned = refl

what_exceeds_it_is_not : plan_refusal with_millions (c ∷ []) ≡ Some (refusals.TooLarge c)
what_exceeds_it_is_not = refl

-- what is missing --------------------------------------------------------------------------------------------------------------------------

a_parent_that_is_no_part_is_missing : plan_refusal (with_lot lots.Exact ++ (keys.Bill q a, records.Bill 1 None) ∷ []) (a ∷ []) ≡ Some (refusals.MissingPart q)
a_parent_that_is_no_part_is_missing = refl

a_calendar_without_a_week_is_missing : plan_refusal (a_part (records.Part 2 lots.Exact 0 (Some w)) (asked_on 9195 50)) (a ∷ []) ≡ Some (refusals.MissingCalendar a)
a_calendar_without_a_week_is_missing = refl

-- what can be promised ---------------------------------------------------------------------------------------------------------------------

-- 60 on hand, 50 asked for on the third day, and 20 coming in on the fourth
abbrev with_receipt : Contents
with_receipt =
    (keys.Plan, records.Plan 9193 5)
    ∷ (keys.Part a, records.Part 2 lots.Exact 0 None)
    ∷ (keys.Stock a, records.Stock 60)
    ∷ (keys.Demand a d1, records.Demand 9195 50)
    ∷ (keys.Receipt a (codes "R1"), records.Receipt 9196 20)
    ∷ []

abbrev received : Lists
received = record {
  gross = 0 ∷ 0 ∷ 50 ∷ 0 ∷ 0 ∷ [];
  sched = 0 ∷ 0 ∷ 0 ∷ 20 ∷ 0 ∷ [];
  planned = 0 ∷ 0 ∷ 0 ∷ 0 ∷ 0 ∷ [];
  balance = 60 ∷ 60 ∷ 10 ∷ 30 ∷ 30 ∷ [];
  release = 0 ∷ 0 ∷ 0 ∷ 0 ∷ 0 ∷ [];
  late = 0;
}

a_scheduled_receipt_is_planned_with : plan with_receipt a ≡ Some (Planned received)
a_scheduled_receipt_is_planned_with = refl

a_promise_keeps_the_days_after_it : map (promise_on received) (range_with_len 0 5) ≡ 10 ∷ 10 ∷ 10 ∷ 30 ∷ 30 ∷ []
a_promise_keeps_the_days_after_it = refl
