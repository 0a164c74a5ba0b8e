-- Worked examples of lots, rows and keys, by computation: what texts are read as, and the first fault of those that have one. (The
-- number of a day isn't computed here.)
use Rattle.std.specs.Prelude.{◌≡◌, ℕ, List, [], ◌∷◌, ◌++◌, true, false, ◌==◌, if◌then◌else◌, Some, None, Result, Ok, Err, map, codes}
use Rattle.std.proofs.Common.{refl}
use Rattle.plan_schema.specs.Day.{day_of, day_in}
use Rattle.plan_schema.specs.Name.{is_name}
use Rattle.plan_schema.specs.declared.fault.Rule.{Rule}
use Rattle.plan_schema.specs.declared.fault.Rule.TheVariants.{Shape, Range, Date, Own}
use Rattle.plan_schema.specs.declared.fault.FieldFault.{FieldFault}
use Rattle.plan_schema.specs.declared.key.Lot.TheVariants as lots
use Rattle.plan_schema.specs.declared.key.Key.{Key}
use Rattle.plan_schema.specs.declared.key.Key.TheVariants as keys
use Rattle.plan_schema.specs.declared.key.Record.{Record}
use Rattle.plan_schema.specs.declared.key.Record.TheVariants as records
use Rattle.row_text.specs.Number.{number_of}
use Rattle.row_text.specs.Row.{text_at, end_at, name_in, name_at, number_at, day_at, stock_of, demand_of, component_at, to_at, days_of_span, span_at, bill_of, days_at, plan_of, week_of, week_at, cal_of, holiday_of, receipt_of, fixed_of, period_of, least_and_step, least_of, setup_and_hold, best_of, lot_of, lot_at, calendar_in, calendar_at, part_of, row_of_table, row_of, one_name, two_names, holiday_key_of, bill_key_of, key_of_table, key_of}

-- a text cut at its spaces
abbrev cut_behind : List ℕ → List ℕ → List (List ℕ)
cut_behind word [] = word ∷ []
cut_behind word (byte ∷ text) = if byte == 32 then word ∷ cut_behind [] text else cut_behind (word ++ byte ∷ []) text

abbrev words : List ℕ → List (List ℕ)
words text = cut_behind [] text

abbrev row : List ℕ → Result (Key × Record) FieldFault
row text = row_of (words text)

abbrev key : List ℕ → Result Key FieldFault
key text = key_of (words text)

-- a text with its first faulty field, and the rule that this breaks
abbrev Faulty : Type 0
Faulty = List ℕ × ℕ × Rule

abbrev fault : {A : Type 0} → Faulty → Result A FieldFault
fault case = Err (record { field = case.1; rule = case.2 })

-- lots ------------------------------------------------------------------------------------------------------------------------

lots_are_read : map lot_of (codes "L4L" ∷ codes "FOQ:1000000000" ∷ codes "MM:0:1" ∷ codes "POQ:400" ∷ codes "WW:0:0" ∷ codes "WW:1000000000:1000000" ∷ [])
    ≡ Ok lots.Exact ∷ Ok (lots.Fixed 1_000_000_000) ∷ Ok (lots.Least 0 1) ∷ Ok (lots.Period 400) ∷ Ok (lots.Best 0 0) ∷ Ok (lots.Best 1_000_000_000 1_000_000) ∷ []
unfolding lot_of fixed_of period_of least_of least_and_step best_of setup_and_hold number_of
lots_are_read = refl

-- numbers past their limits
abbrev out_of_range : List (List ℕ)
out_of_range = codes "FOQ:0" ∷ codes "FOQ:1000000001" ∷ codes "MM:1000000001:1" ∷ codes "MM:1:0" ∷ codes "POQ:0" ∷ codes "POQ:401" ∷ codes "WW:1000000001:0" ∷ codes "WW:0:1000001" ∷ []

these_lots_are_out_of_range : map lot_of out_of_range ≡ map (λ text. Err Range) out_of_range
unfolding lot_of fixed_of period_of least_of least_and_step best_of setup_and_hold number_of
these_lots_are_out_of_range = refl

-- texts without the form of a lot, which is looked at before its numbers
abbrev without_form : List (List ℕ)
without_form =
    codes "" ∷ codes "l4l" ∷ codes "L4L:1" ∷ codes "FOQ:" ∷ codes "MM:1" ∷ codes "MM::1" ∷ codes "MM:1:2:3"
    ∷ codes "MM:1000000001:x" ∷ codes "POQ:07" ∷ codes "WW:5" ∷ codes "WW:1000000001:x" ∷ codes "WW:05:1" ∷ []

these_are_no_lots : map lot_of without_form ≡ map (λ text. Err Shape) without_form
unfolding lot_of fixed_of period_of least_of least_and_step best_of setup_and_hold number_of
these_are_no_lots = refl

-- rows ------------------------------------------------------------------------------------------------------------------------

a_week_is_read_from_monday_on : row (codes "CAL A 1101100") ≡ Ok (keys.Cal (codes "A"), records.Cal (true ∷ true ∷ false ∷ true ∷ true ∷ false ∷ false ∷ []))
unfolding text_at end_at name_in name_at number_at day_at stock_of demand_of component_at to_at days_of_span span_at bill_of days_at plan_of week_of week_at cal_of holiday_of receipt_of fixed_of period_of least_and_step least_of setup_and_hold best_of lot_of lot_at calendar_in calendar_at part_of row_of_table row_of number_of day_of day_in is_name
a_week_is_read_from_monday_on = refl

a_part_is_read : row (codes "PART A 365 WW:100:1 7 WORK") ≡ Ok (keys.Part (codes "A"), records.Part 365 (lots.Best 100 1) 7 (Some (codes "WORK")))
unfolding text_at end_at name_in name_at number_at day_at stock_of demand_of component_at to_at days_of_span span_at bill_of days_at plan_of week_of week_at cal_of holiday_of receipt_of fixed_of period_of least_and_step least_of setup_and_hold best_of lot_of lot_at calendar_in calendar_at part_of row_of_table row_of number_of day_of day_in is_name
a_part_is_read = refl

a_part_may_have_no_calendar : row (codes "PART A 0 L4L 1000000000 -") ≡ Ok (keys.Part (codes "A"), records.Part 0 lots.Exact 1_000_000_000 None)
unfolding text_at end_at name_in name_at number_at day_at stock_of demand_of component_at to_at days_of_span span_at bill_of days_at plan_of week_of week_at cal_of holiday_of receipt_of fixed_of period_of least_and_step least_of setup_and_hold best_of lot_of lot_at calendar_in calendar_at part_of row_of_table row_of number_of day_of day_in is_name
a_part_may_have_no_calendar = refl

a_bill_may_have_no_span : row (codes "BILL BIKE WHEEL 1000000") ≡ Ok (keys.Bill (codes "BIKE") (codes "WHEEL"), records.Bill 1_000_000 None)
unfolding text_at end_at name_in name_at number_at day_at stock_of demand_of component_at to_at days_of_span span_at bill_of days_at plan_of week_of week_at cal_of holiday_of receipt_of fixed_of period_of least_and_step least_of setup_and_hold best_of lot_of lot_at calendar_in calendar_at part_of row_of_table row_of number_of day_of day_in is_name
a_bill_may_have_no_span = refl

-- rows of the horizon and of calendars
abbrev faulty_days : List Faulty
faulty_days =
    (codes "", 0, Shape)
    ∷ (codes "plan 2025-03-03 5", 0, Shape)
    ∷ (codes "PLANS", 0, Shape)
    ∷ (codes "PLAN", 1, Shape)
    ∷ (codes "PLAN 2025-3-03 5", 1, Shape)
    ∷ (codes "PLAN 2025-02-29 5", 1, Date)
    ∷ (codes "PLAN 1999-12-31 5", 1, Date)
    ∷ (codes "PLAN 2025-13-01 x", 1, Date)
    ∷ (codes "PLAN 2025-03-03", 2, Shape)
    ∷ (codes "PLAN 2025-03-03 05", 2, Shape)
    ∷ (codes "PLAN 2025-03-03 0", 2, Range)
    ∷ (codes "PLAN 2025-03-03 401", 2, Range)
    ∷ (codes "CAL", 1, Shape)
    ∷ (codes "CAL .A 1111100", 1, Shape)
    ∷ (codes "CAL A 111110", 2, Shape)
    ∷ (codes "CAL A 1111102", 2, Shape)
    ∷ (codes "CAL A 1111100 x", 3, Shape)
    ∷ (codes "HOLIDAY A", 2, Shape)
    ∷ (codes "HOLIDAY A 2025-02-30", 2, Date)
    ∷ (codes "HOLIDAY A 2025-03-03 x", 3, Shape)
    ∷ []

their_first_fault_is_told : map (λ case. row case.0) faulty_days ≡ map fault faulty_days
unfolding text_at end_at name_in name_at number_at day_at stock_of demand_of component_at to_at days_of_span span_at bill_of days_at plan_of week_of week_at cal_of holiday_of receipt_of fixed_of period_of least_and_step least_of setup_and_hold best_of lot_of lot_at calendar_in calendar_at part_of row_of_table row_of number_of day_of day_in is_name
their_first_fault_is_told = refl

-- rows of parts, orders and bills
abbrev faulty_parts : List Faulty
faulty_parts =
    (codes "PART", 1, Shape)
    ∷ (codes "PART a/b 2 L4L 0 -", 1, Shape)
    ∷ (codes "PART A x L4L 0 -", 2, Shape)
    ∷ (codes "PART A 366 l4l 0 -", 2, Range)
    ∷ (codes "PART A 2 l4l -1 -", 3, Shape)
    ∷ (codes "PART A 2 POQ:401 0 -", 3, Range)
    ∷ (codes "PART A 2 L4L -1 -", 4, Shape)
    ∷ (codes "PART A 2 L4L 1000000001 -", 4, Range)
    ∷ (codes "PART A 2 L4L 0", 5, Shape)
    ∷ (codes "PART A 2 L4L 0 --", 5, Shape)
    ∷ (codes "PART A 2 L4L 0 - x", 6, Shape)
    ∷ (codes "STOCK A", 2, Shape)
    ∷ (codes "STOCK A 1000000001", 2, Range)
    ∷ (codes "STOCK A 1 x", 3, Shape)
    ∷ (codes "DEMAND A", 2, Shape)
    ∷ (codes "DEMAND A o-1 2025-13-01 1", 3, Date)
    ∷ (codes "DEMAND A o-1 2025-03-03 1000000001", 4, Range)
    ∷ (codes "RECEIPT A o-1 20250303 1", 3, Shape)
    ∷ (codes "RECEIPT A o-1 2025-03-03 1 x", 5, Shape)
    ∷ (codes "BILL A A 0", 2, Own)
    ∷ (codes "BILL A B 0", 3, Range)
    ∷ (codes "BILL A B 1000001", 3, Range)
    ∷ (codes "BILL A B 1 2025-03-03", 5, Shape)
    ∷ (codes "PART A 2 WW:5 x -", 3, Shape)
    ∷ (codes "BILL A B 1 2025-02-29", 4, Date)
    ∷ []

and_so_is_theirs : map (λ case. row case.0) faulty_parts ≡ map fault faulty_parts
unfolding text_at end_at name_in name_at number_at day_at stock_of demand_of component_at to_at days_of_span span_at bill_of days_at plan_of week_of week_at cal_of holiday_of receipt_of fixed_of period_of least_and_step least_of setup_and_hold best_of lot_of lot_at calendar_in calendar_at part_of row_of_table row_of number_of day_of day_in is_name
and_so_is_theirs = refl

-- keys ------------------------------------------------------------------------------------------------------------------------

a_part_has_its_name_as_key : key (codes "PART A") ≡ Ok (keys.Part (codes "A"))
unfolding text_at end_at name_in name_at day_at component_at one_name two_names holiday_key_of bill_key_of key_of_table key_of day_of day_in is_name
a_part_has_its_name_as_key = refl

a_demand_has_its_order_too : key (codes "DEMAND A B") ≡ Ok (keys.Demand (codes "A") (codes "B"))
unfolding text_at end_at name_in name_at day_at component_at one_name two_names holiday_key_of bill_key_of key_of_table key_of day_of day_in is_name
a_demand_has_its_order_too = refl

a_bill_has_both_names : key (codes "BILL A B") ≡ Ok (keys.Bill (codes "A") (codes "B"))
unfolding text_at end_at name_in name_at day_at component_at one_name two_names holiday_key_of bill_key_of key_of_table key_of day_of day_in is_name
a_bill_has_both_names = refl

-- keys; the horizon has none
abbrev faulty_keys : List Faulty
faulty_keys =
    (codes "", 0, Shape)
    ∷ (codes "PLAN", 0, Shape)
    ∷ (codes "CAL", 1, Shape)
    ∷ (codes "STOCK A 5", 2, Shape)
    ∷ (codes "HOLIDAY A 2025-02-30", 2, Date)
    ∷ (codes "HOLIDAY A 2025-03-03 x", 3, Shape)
    ∷ (codes "DEMAND A", 2, Shape)
    ∷ (codes "BILL A A", 2, Own)
    ∷ (codes "BILL A B 1", 3, Shape)
    ∷ []

the_first_fault_of_a_key_is_told : map (λ case. key case.0) faulty_keys ≡ map fault faulty_keys
unfolding text_at end_at name_in name_at day_at component_at one_name two_names holiday_key_of bill_key_of key_of_table key_of day_of day_in is_name
the_first_fault_of_a_key_is_told = refl
