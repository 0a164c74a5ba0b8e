-- Worked examples of full pegging, by computation.
use Rattle.std.specs.Prelude.{◌≡◌, [], ◌∷◌, None, codes}
use Rattle.std.proofs.Common.{refl}
use Rattle.plan_schema.specs.declared.name.Name.{Name}
use Rattle.plan_schema.specs.declared.key.Key.TheVariants as keys
use Rattle.plan_schema.specs.declared.key.Lot.{Lot}
use Rattle.plan_schema.specs.declared.key.Lot.TheVariants as lots
use Rattle.plan_schema.specs.declared.key.Record.TheVariants as records
use Rattle.plan_schema.specs.Contents.{Contents}
use Rattle.planning_rules.specs.Trace.{AtDemand, Surplus, trace}

abbrev a : Name
a = codes "A"

abbrev b : Name
b = codes "B"

abbrev d1 : Name
d1 = codes "D1"

-- 50 of A are asked for on the third day, and 30 are on hand; three of B go into each A
abbrev with_lot : Lot → Contents
with_lot lot =
    (keys.Plan, records.Plan 9193 5)
    ∷ (keys.Part a, records.Part 2 lot 0 None)
    ∷ (keys.Part b, records.Part 1 lots.Exact 0 None)
    ∷ (keys.Stock a, records.Stock 30)
    ∷ (keys.Demand a d1, records.Demand 9195 50)
    ∷ (keys.Bill a b, records.Bill 3 None)
    ∷ []

what_is_planned_is_for_the_demand : trace (with_lot lots.Exact) a 2 ≡ (AtDemand a d1, 20) ∷ []
what_is_planned_is_for_the_demand = refl

and_so_are_its_components : trace (with_lot lots.Exact) b 0 ≡ (AtDemand a d1, 60) ∷ []
and_so_are_its_components = refl

a_day_without_a_receipt_is_for_nothing : trace (with_lot lots.Exact) a 1 ≡ []
a_day_without_a_receipt_is_for_nothing = refl

what_exceeds_the_demand_is_surplus : trace (with_lot (lots.Fixed 15)) a 2 ≡ (AtDemand a d1, 20) ∷ (Surplus a, 10) ∷ []
what_exceeds_the_demand_is_surplus = refl

and_its_components_are_for_the_surplus : trace (with_lot (lots.Fixed 15)) b 0 ≡ (AtDemand a d1, 60) ∷ (Surplus a, 30) ∷ []
and_its_components_are_for_the_surplus = refl
