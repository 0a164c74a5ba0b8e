-- Worked examples, by computation.
use Rattle.std.specs.Prelude.{◌≡◌, [], ◌∷◌, true, false, Some, None, codes}
use Rattle.std.proofs.Common.{refl}
use Rattle.plan_schema.specs.declared.name.Name.{Name}
use Rattle.plan_schema.specs.declared.key.Key.TheVariants as keys
use Rattle.plan_schema.specs.declared.key.Lot.TheVariants as lots
use Rattle.plan_schema.specs.declared.key.Record.TheVariants as records
use Rattle.plan_schema.specs.declared.refusal.Refusal.TheVariants as refusals
use Rattle.plan_schema.specs.Contents.{Contents}
use Rattle.query_language.specs.declared.column.Column.TheVariants as columns
use Rattle.query_language.specs.declared.column.Op.TheVariants as ops
use Rattle.query_language.specs.Trees.{Compares, IsNamed, Negation, Both, Either, QueryTree}
use Rattle.query_rules.specs.Queries.{selected, query_refusal}
use Rattle.query_rules.specs.Laws.{selects}

abbrev a : Name
a = codes "A"

abbrev b : Name
b = codes "B"

abbrev d1 : Name
d1 = codes "D1"

-- 60 of A on hand, 50 asked for on the third day, and 20 coming in on the fourth
abbrev with_receipt : Contents
with_receipt =
    (keys.Plan, records.Plan 9193 5)
    ∷ (keys.Part a, records.Part 2 lots.Exact 0 None)
    ∷ (keys.Stock a, records.Stock 60)
    ∷ (keys.Demand a d1, records.Demand 9195 50)
    ∷ (keys.Receipt a (codes "R1"), records.Receipt 9196 20)
    ∷ []

-- the query `low,last,gross WHERE part = A`
the_least_balance_the_last_and_what_is_asked_for : selected with_receipt (selects (columns.Low ∷ columns.Last ∷ columns.Gross ∷ []) (Some (IsNamed a true))) ≡ (a, 10 ∷ 30 ∷ 50 ∷ []) ∷ []
the_least_balance_the_last_and_what_is_asked_for = refl

-- A and B are components of each other
abbrev with_cycle : Contents
with_cycle =
    (keys.Plan, records.Plan 9193 5)
    ∷ (keys.Part a, records.Part 2 lots.Exact 0 None)
    ∷ (keys.Part b, records.Part 0 lots.Exact 0 None)
    ∷ (keys.Stock a, records.Stock 30)
    ∷ (keys.Demand a d1, records.Demand 9195 50)
    ∷ (keys.Bill a b, records.Bill 1 None)
    ∷ (keys.Bill b a, records.Bill 1 None)
    ∷ []

-- the query `stock WHERE stock > 0`
abbrev in_stock : QueryTree
in_stock = selects (columns.Stock ∷ []) (Some (Compares columns.Stock ops.Gt 0))

what_needs_no_plan_is_told_on_a_cycle : selected with_cycle in_stock ≡ (a, 30 ∷ []) ∷ []
what_needs_no_plan_is_told_on_a_cycle = refl

and_is_not_refused : query_refusal with_cycle in_stock ≡ None
and_is_not_refused = refl

what_needs_it_is_refused : query_refusal with_cycle (selects (columns.Planned ∷ []) None) ≡ Some (refusals.Cyclic a)
what_needs_it_is_refused = refl

so_is_a_condition_that_needs_it : query_refusal with_cycle (selects (columns.Stock ∷ []) (Some (Negation (Compares columns.Late ops.Eq 0)))) ≡ Some (refusals.Cyclic a)
so_is_a_condition_that_needs_it = refl

-- three of B to each A, by a bill that is not effective on the first day, on which A is released; 50 of A are asked for, and 30 are on hand
abbrev with_component : Contents
with_component =
    (keys.Plan, records.Plan 9193 5)
    ∷ (keys.Part a, records.Part 2 lots.Exact 0 None)
    ∷ (keys.Part b, records.Part 1 lots.Exact 7 None)
    ∷ (keys.Stock a, records.Stock 30)
    ∷ (keys.Demand a d1, records.Demand 9195 50)
    ∷ (keys.Bill a b, records.Bill 3 (Some (record { from = 9194; to = 9221 })))
    ∷ []

-- the query `parents WHERE part = B`
a_bill_that_is_not_effective_makes_a_parent : selected with_component (selects (columns.Parents ∷ []) (Some (IsNamed b true))) ≡ (b, 1 ∷ []) ∷ []
a_bill_that_is_not_effective_makes_a_parent = refl

-- the query `lead,safety,demand,receipt,planned,release,late`
all_parts_are_told_by_name : selected with_component (selects (columns.Lead ∷ columns.Safety ∷ columns.Demand ∷ columns.Receipt ∷ columns.Planned ∷ columns.Release ∷ columns.Late ∷ []) None)
    ≡ (a, 2 ∷ 0 ∷ 50 ∷ 0 ∷ 20 ∷ 20 ∷ 0 ∷ []) ∷ (b, 1 ∷ 7 ∷ 0 ∷ 0 ∷ 7 ∷ 7 ∷ 7 ∷ []) ∷ []
all_parts_are_told_by_name = refl

-- the query `stock WHERE lead >= 2 AND safety < 7 OR NOT part != B`
both_and_either : selected with_component (selects (columns.Stock ∷ []) (Some (Either (Both (Compares columns.Lead ops.Ge 2) (Compares columns.Safety ops.Lt 7)) (Negation (IsNamed b false)))))
    ≡ (a, 30 ∷ []) ∷ (b, 0 ∷ []) ∷ []
both_and_either = refl
