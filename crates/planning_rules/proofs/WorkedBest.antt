-- Worked examples of least-cost lots, by computation.
use Rattle.std.specs.Prelude.{◌≡◌, ℕ, List, [], ◌∷◌, Some, None, codes}
use Rattle.std.proofs.Common.{refl}
use Rattle.plan_schema.specs.declared.name.Name.{Name}
use Rattle.plan_schema.specs.declared.key.Key.TheVariants as keys
use Rattle.plan_schema.specs.declared.key.Lot.TheVariants as lots
use Rattle.plan_schema.specs.declared.key.Record.TheVariants as records
use Rattle.plan_schema.specs.Contents.{Contents}
use Rattle.planning_rules.specs.BestLots.{needs, cost, least_cost, best}
use Rattle.planning_rules.specs.Plan.{Planned, plan}

-- 10, 60, 15 and 40 are needed on four days ---------------------------------------------------------------------------------------------

abbrev short : List ℕ
short = 10 ∷ 70 ∷ 85 ∷ 125 ∷ []

abbrev wanted : List ℕ
wanted = 10 ∷ 60 ∷ 15 ∷ 40 ∷ []

a_day_needs_what_passes_the_shortages_before_it : needs short ≡ wanted
a_day_needs_what_passes_the_shortages_before_it = refl

-- a setup is 100, and a unit waits a day for 1
two_orders_are_best : best 100 1 wanted ≡ 85 ∷ 0 ∷ 0 ∷ 40 ∷ []
two_orders_are_best = refl

they_cost_two_setups_and_the_waiting : cost 100 1 short (85 ∷ 0 ∷ 0 ∷ 40 ∷ []) ≡ 290
they_cost_two_setups_and_the_waiting = refl

an_order_for_each_need_costs_more : cost 100 1 short wanted ≡ 400
an_order_for_each_need_costs_more = refl

the_least_cost_is_that_of_the_best : least_cost 100 1 wanted ≡ 290
the_least_cost_is_that_of_the_best = refl

from_the_second_need_on_it_is : least_cost 100 1 (60 ∷ 15 ∷ 40 ∷ []) ≡ 195
from_the_second_need_on_it_is = refl

from_the_third_on : least_cost 100 1 (15 ∷ 40 ∷ []) ≡ 140
from_the_third_on = refl

and_of_the_last : least_cost 100 1 (40 ∷ []) ≡ 100
and_of_the_last = refl

where_a_setup_costs_nothing_each_need_is_ordered : best 0 1 wanted ≡ wanted
where_a_setup_costs_nothing_each_need_is_ordered = refl

where_waiting_costs_nothing_all_are_ordered_at_once : best 100 0 wanted ≡ 125 ∷ 0 ∷ 0 ∷ 0 ∷ []
where_waiting_costs_nothing_all_are_ordered_at_once = refl

where_neither_does_the_first_order_is_the_least : best 0 0 wanted ≡ wanted
where_neither_does_the_first_order_is_the_least = refl

-- 10, 5, 5 and 5 are needed, a setup is 5: one order of 15 first costs as much as two
of_equal_costs_the_least_first_order_is_best : best 5 1 (10 ∷ 5 ∷ 5 ∷ 5 ∷ []) ≡ 10 ∷ 5 ∷ 5 ∷ 5 ∷ []
of_equal_costs_the_least_first_order_is_best = refl

nothing_is_ordered_for_days_that_need_nothing : best 100 1 (needs (10 ∷ 0 ∷ 4 ∷ 12 ∷ [])) ≡ 12 ∷ 0 ∷ 0 ∷ 0 ∷ []
nothing_is_ordered_for_days_that_need_nothing = refl

-- the plan of a part with these needs ----------------------------------------------------------------------------------------------------

abbrev a : Name
a = codes "A"

abbrev base : Contents
base = (keys.Plan, records.Plan 9193 4) ∷ (keys.Part a, records.Part 0 (lots.Best 100 1) 0 None)
    ∷ (keys.Demand a (codes "D1"), records.Demand 9193 10) ∷ (keys.Demand a (codes "D2"), records.Demand 9194 60)
    ∷ (keys.Demand a (codes "D3"), records.Demand 9195 15) ∷ (keys.Demand a (codes "D4"), records.Demand 9196 40) ∷ []

two_orders_are_planned : plan base a ≡ Some (Planned (record {
  gross = 10 ∷ 60 ∷ 15 ∷ 40 ∷ [];
  sched = 0 ∷ 0 ∷ 0 ∷ 0 ∷ [];
  planned = 85 ∷ 0 ∷ 0 ∷ 40 ∷ [];
  balance = 75 ∷ 15 ∷ 0 ∷ 0 ∷ [];
  release = 85 ∷ 0 ∷ 0 ∷ 40 ∷ [];
  late = 0;
}))
two_orders_are_planned = refl
