-- Reading a row, or the key of one, from its fields, of which field 0 is the table word. Fields are read in order, and the first
-- faulty one is given with the rule that it breaks.
use Rattle.std.specs.Prelude.{ℕ, ◌+◌, Bool, ◌&&◌, ◌||◌, ◌==◌, slice_index, nat_le, nat_eq, List, [], ◌∷◌, length, take, drop, position, Option, Some, None, Result, Ok, Err, if◌then◌else◌, codes}
use Rattle.std.specs.List.{slice_get, starts_with, list_all}
use Rattle.std.specs.Cmp.Lexicographic.{pointwise}
use Rattle.plan_schema.specs.declared.fault.Rule.{Rule}
use Rattle.plan_schema.specs.declared.fault.Rule.TheVariants.{Shape, Range, Own}
use Rattle.plan_schema.specs.declared.fault.FieldFault.{FieldFault}
use Rattle.plan_schema.specs.declared.key.Lot.{Lot}
use Rattle.plan_schema.specs.declared.key.Lot.TheVariants.{Exact, Fixed, Least, Period, Best}
use Rattle.plan_schema.specs.declared.key.Key.{Key}
use Rattle.plan_schema.specs.declared.key.Key.TheVariants as keys
use Rattle.plan_schema.specs.declared.key.Span.{Span}
use Rattle.plan_schema.specs.declared.key.Record.{Record}
use Rattle.plan_schema.specs.declared.key.Record.TheVariants as records
use Rattle.plan_schema.specs.Name.{is_name}
use Rattle.row_text.specs.Number.{number_of, is_number}
use Rattle.plan_schema.specs.Day.{day_of}

-- what is read, and then what follows from it; a fault ends the reading
infixl 10 ◌>>=◌
abbrev pub ◌>>=◌ : {A B E : Type 0} → Result A E → (A → Result B E) → Result B E
(Ok x) >>= f = f x
(Err e) >>= f = Err e

-- what a field's text says, as a part of its row
abbrev pub at_field : {A : Type 0} → ℕ → Result A Rule → Result A FieldFault
at_field k (Ok x) = Ok x
at_field k (Err rule) = Err (record { field = k; rule = rule })

abbrev pub text_of_field : ℕ → Option (List ℕ) → Result (List ℕ) FieldFault
text_of_field k (Some text) = Ok text
text_of_field k None = Err (record { field = k; rule = Shape })

-- the text at a place, which mustn't be missing
unfoldable pub text_at : List (List ℕ) → ℕ → Result (List ℕ) FieldFault
text_at fields k = text_of_field k (slice_get fields k)

-- no field stands from a place on
unfoldable pub end_at : List (List ℕ) → ℕ → Result (Unit {0}) FieldFault
end_at fields k = if nat_le (length fields) k then Ok tt else Err (record { field = k; rule = Shape })

unfoldable pub name_in : List ℕ → Result (List ℕ) Rule
name_in text = if is_name text then Ok text else Err Shape

unfoldable pub name_at : List (List ℕ) → ℕ → Result (List ℕ) FieldFault
name_at fields k = do
  text ← text_at fields k
  at_field k (name_in text)

unfoldable pub number_at : List (List ℕ) → ℕ → ℕ → ℕ → Result ℕ FieldFault
number_at fields k low high = do
  text ← text_at fields k
  at_field k (number_of low high text)

unfoldable pub day_at : List (List ℕ) → ℕ → Result ℕ FieldFault
day_at fields k = do
  text ← text_at fields k
  at_field k (day_of text)

-- STOCK: part; quantity
unfoldable pub stock_of : List (List ℕ) → Result (Key × Record) FieldFault
stock_of fields = do
  part ← name_at fields 1
  qty ← number_at fields 2 0 1_000_000_000
  _ ← end_at fields 3
  Ok (keys.Stock part, records.Stock qty)

-- DEMAND: part; order; date; quantity
unfoldable pub demand_of : List (List ℕ) → Result (Key × Record) FieldFault
demand_of fields = do
  part ← name_at fields 1
  order ← name_at fields 2
  day ← day_at fields 3
  qty ← number_at fields 4 0 1_000_000_000
  _ ← end_at fields 5
  Ok (keys.Demand part order, records.Demand day qty)

-- a component: another name than the parent's
unfoldable pub component_at : List (List ℕ) → ℕ → List ℕ → Result (List ℕ) FieldFault
component_at fields k parent = do
  component ← name_at fields k
  if pointwise nat_eq parent component then Err (record { field = k; rule = Own }) else Ok component

-- the last day of a span, which isn't before its first
unfoldable pub to_at : List (List ℕ) → ℕ → ℕ → Result ℕ FieldFault
to_at fields k from = do
  to ← day_at fields k
  if nat_le from to then Ok to else Err (record { field = k; rule = Range })

-- the days of a span, and nothing behind them
unfoldable pub days_of_span : List (List ℕ) → ℕ → Result (Option Span) FieldFault
days_of_span fields k = do
  from ← day_at fields k
  to ← to_at fields (k + 1) from
  _ ← end_at fields (k + 2)
  Ok (Some (record { from = from; to = to }))

-- no span, where no field is left, or the two days of one
unfoldable pub span_at : List (List ℕ) → ℕ → Result (Option Span) FieldFault
span_at fields k = if nat_le (length fields) k then Ok None else days_of_span fields k

-- BILL: parent; component; quantity per; and from and to where it has a span
unfoldable pub bill_of : List (List ℕ) → Result (Key × Record) FieldFault
bill_of fields = do
  parent ← name_at fields 1
  component ← component_at fields 2 parent
  per ← number_at fields 3 1 1_000_000
  span ← span_at fields 4
  Ok (keys.Bill parent component, records.Bill per span)

-- PLAN: start; days, of which the last isn't after 2099
unfoldable pub days_at : List (List ℕ) → ℕ → ℕ → Result ℕ FieldFault
days_at fields k start = do
  days ← number_at fields k 1 400
  if nat_le (start + days) 36525 then Ok days else Err (record { field = k; rule = Range })

unfoldable pub plan_of : List (List ℕ) → Result (Key × Record) FieldFault
plan_of fields = do
  start ← day_at fields 1
  days ← days_at fields 2 start
  _ ← end_at fields 3
  Ok (keys.Plan, records.Plan start days)

-- a week: `0` or `1` for each day, Monday first
abbrev pub works : List ℕ → ℕ → Bool
works text k = slice_index text k == 49

unfoldable pub week_of : List ℕ → Result (List Bool) Rule
week_of text =
    if (length text == 7) && list_all (λ b. (b == 48) || (b == 49)) text
    then Ok (works text 0 ∷ works text 1 ∷ works text 2 ∷ works text 3 ∷ works text 4 ∷ works text 5 ∷ works text 6 ∷ []) else Err Shape

unfoldable pub week_at : List (List ℕ) → ℕ → Result (List Bool) FieldFault
week_at fields k = do
  text ← text_at fields k
  at_field k (week_of text)

-- CAL: name; week
unfoldable pub cal_of : List (List ℕ) → Result (Key × Record) FieldFault
cal_of fields = do
  name ← name_at fields 1
  week ← week_at fields 2
  _ ← end_at fields 3
  Ok (keys.Cal name, records.Cal week)

-- HOLIDAY: calendar; date
unfoldable pub holiday_of : List (List ℕ) → Result (Key × Record) FieldFault
holiday_of fields = do
  calendar ← name_at fields 1
  day ← day_at fields 2
  _ ← end_at fields 3
  Ok (keys.Holiday calendar day, records.Holiday)

-- RECEIPT: part; order; date; quantity
unfoldable pub receipt_of : List (List ℕ) → Result (Key × Record) FieldFault
receipt_of fields = do
  part ← name_at fields 1
  order ← name_at fields 2
  day ← day_at fields 3
  qty ← number_at fields 4 0 1_000_000_000
  _ ← end_at fields 5
  Ok (keys.Receipt part order, records.Receipt day qty)

-- lots: `L4L`, `FOQ:q`, `MM:min:mult`, `POQ:p` or `WW:setup:hold`. A lot has its form before its numbers have their ranges
unfoldable pub fixed_of : List ℕ → Result Lot Rule
fixed_of text = do
  q ← number_of 1 1_000_000_000 text
  Ok (Fixed q)

unfoldable pub period_of : List ℕ → Result Lot Rule
period_of text = do
  p ← number_of 1 400 text
  Ok (Period p)

unfoldable pub least_and_step : List ℕ → List ℕ → Result Lot Rule
least_and_step first second =
    if is_number first && is_number second then (do
      least ← number_of 0 1_000_000_000 first
      step ← number_of 1 1_000_000_000 second
      Ok (Least least step))
    else Err Shape

unfoldable pub setup_and_hold : List ℕ → List ℕ → Result Lot Rule
setup_and_hold first second =
    if is_number first && is_number second then (do
      setup ← number_of 0 1_000_000_000 first
      hold ← number_of 0 1_000_000 second
      Ok (Best setup hold))
    else Err Shape

-- a text is cut at its first colon
abbrev pub split_lot : (List ℕ → List ℕ → Result Lot Rule) → Option ℕ → List ℕ → Result Lot Rule
split_lot both None text = Err Shape
split_lot both (Some k) text = both (take k text) (drop (k + 1) text)

unfoldable pub least_of : List ℕ → Result Lot Rule
least_of text = split_lot least_and_step (position (λ b. b == 58) text) text

unfoldable pub best_of : List ℕ → Result Lot Rule
best_of text = split_lot setup_and_hold (position (λ b. b == 58) text) text

unfoldable pub lot_of : List ℕ → Result Lot Rule
lot_of text =
    if pointwise nat_eq text (codes "L4L") then Ok Exact
    else (if starts_with nat_eq text (codes "FOQ:") then fixed_of (drop 4 text)
    else (if starts_with nat_eq text (codes "MM:") then least_of (drop 3 text)
    else (if starts_with nat_eq text (codes "POQ:") then period_of (drop 4 text)
    else (if starts_with nat_eq text (codes "WW:") then best_of (drop 3 text) else Err Shape))))

unfoldable pub lot_at : List (List ℕ) → ℕ → Result Lot FieldFault
lot_at fields k = do
  text ← text_at fields k
  at_field k (lot_of text)

-- a calendar's name, or `-` for none
unfoldable pub calendar_in : List ℕ → Result (Option (List ℕ)) Rule
calendar_in text =
    if pointwise nat_eq text (codes "-") then Ok None
    else (if is_name text then Ok (Some text) else Err Shape)

unfoldable pub calendar_at : List (List ℕ) → ℕ → Result (Option (List ℕ)) FieldFault
calendar_at fields k = do
  text ← text_at fields k
  at_field k (calendar_in text)

-- PART: name; lead; lot; safety; calendar
unfoldable pub part_of : List (List ℕ) → Result (Key × Record) FieldFault
part_of fields = do
  name ← name_at fields 1
  lead ← number_at fields 2 0 365
  lot ← lot_at fields 3
  safety ← number_at fields 4 0 1_000_000_000
  calendar ← calendar_at fields 5
  _ ← end_at fields 6
  Ok (keys.Part name, records.Part lead lot safety calendar)

-- a row, by its table word
unfoldable pub row_of_table : List ℕ → List (List ℕ) → Result (Key × Record) FieldFault
row_of_table word fields =
    if pointwise nat_eq word (codes "PLAN") then plan_of fields
    else (if pointwise nat_eq word (codes "CAL") then cal_of fields
    else (if pointwise nat_eq word (codes "HOLIDAY") then holiday_of fields
    else (if pointwise nat_eq word (codes "PART") then part_of fields
    else (if pointwise nat_eq word (codes "STOCK") then stock_of fields
    else (if pointwise nat_eq word (codes "DEMAND") then demand_of fields
    else (if pointwise nat_eq word (codes "RECEIPT") then receipt_of fields
    else (if pointwise nat_eq word (codes "BILL") then bill_of fields
    else Err (record { field = 0; rule = Shape }))))))))

unfoldable pub row_of : List (List ℕ) → Result (Key × Record) FieldFault
row_of fields = do
  word ← text_at fields 0
  row_of_table word fields

-- the key forms ---------------------------------------------------------------------------------------------------------

-- CAL, PART and STOCK: one name
unfoldable pub one_name : List (List ℕ) → (List ℕ → Key) → Result Key FieldFault
one_name fields key = do
  name ← name_at fields 1
  _ ← end_at fields 2
  Ok (key name)

-- DEMAND and RECEIPT: part; order
unfoldable pub two_names : List (List ℕ) → (List ℕ → List ℕ → Key) → Result Key FieldFault
two_names fields key = do
  part ← name_at fields 1
  order ← name_at fields 2
  _ ← end_at fields 3
  Ok (key part order)

-- HOLIDAY: calendar; date
unfoldable pub holiday_key_of : List (List ℕ) → Result Key FieldFault
holiday_key_of fields = do
  calendar ← name_at fields 1
  day ← day_at fields 2
  _ ← end_at fields 3
  Ok (keys.Holiday calendar day)

-- BILL: parent; component
unfoldable pub bill_key_of : List (List ℕ) → Result Key FieldFault
bill_key_of fields = do
  parent ← name_at fields 1
  component ← component_at fields 2 parent
  _ ← end_at fields 3
  Ok (keys.Bill parent component)

-- a key, by its table word; the horizon's has no key form
unfoldable pub key_of_table : List ℕ → List (List ℕ) → Result Key FieldFault
key_of_table word fields =
    if pointwise nat_eq word (codes "CAL") then one_name fields keys.Cal
    else (if pointwise nat_eq word (codes "HOLIDAY") then holiday_key_of fields
    else (if pointwise nat_eq word (codes "PART") then one_name fields keys.Part
    else (if pointwise nat_eq word (codes "STOCK") then one_name fields keys.Stock
    else (if pointwise nat_eq word (codes "DEMAND") then two_names fields keys.Demand
    else (if pointwise nat_eq word (codes "RECEIPT") then two_names fields keys.Receipt
    else (if pointwise nat_eq word (codes "BILL") then bill_key_of fields
    else Err (record { field = 0; rule = Shape })))))))

-- the key whose key form the fields are
unfoldable pub key_of : List (List ℕ) → Result Key FieldFault
key_of fields = do
  word ← text_at fields 0
  key_of_table word fields
