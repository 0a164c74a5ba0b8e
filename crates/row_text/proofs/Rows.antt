-- Rows and keys: what is read is sound and spelled so, and what is sound is read as it is spelled.
use Rattle.std.proofs.Common.{◌≡◌, ℕ, ◌+◌, ◌≤◌, Bool, true, false, not, ◌&&◌, nat_eq, nat_le, List, [], ◌∷◌, length, Option, Some, None, Result, Ok, Err, refl, sym, ap, ◌∙◌, subst, arith}
use Rattle.std.specs.Prelude.{decimal, codes, IfOk}
use Rattle.std.specs.List.{slice_get}
use Rattle.std.specs.Cmp.Lexicographic.{pointwise, bytes_decides}
use Rattle.std.proofs.lemmas.Bool.Decides.{nat_tests}
use Rattle.std.proofs.lemmas.Bool.{and_parts}
use Rattle.plan_schema.specs.declared.fault.FieldFault.{FieldFault}
use Rattle.plan_schema.specs.declared.key.Key.{Key}
use Rattle.plan_schema.specs.declared.key.Key.TheVariants as keys
use Rattle.plan_schema.specs.declared.key.Span.{Span}
use Rattle.plan_schema.specs.declared.key.Record.{Record}
use Rattle.plan_schema.specs.declared.key.Record.TheVariants as records
use Rattle.plan_schema.specs.Name.{is_name}
use Rattle.plan_schema.specs.Day.{is_day, day_text}
use Rattle.plan_schema.specs.Key.{name_eq}
use Rattle.plan_schema.specs.Sound.{is_sound_key, is_sound_row, is_within, is_sound_lot, is_quantity, key_has_names, record_has_names, are_apart}
use Rattle.plan_schema.proofs.DayLaws.{day_read_again}
use Rattle.row_text.specs.Row.{text_at, end_at, name_in, name_at, number_at, day_at, component_at, to_at, days_of_span, span_at, days_at, plan_of, week_at, cal_of, holiday_of, lot_at, calendar_at, part_of, stock_of, demand_of, receipt_of, bill_of, row_of_table, row_of}
use Rattle.row_text.specs.Spelling.{row_fields, key_fields, record_fields, span_fields, lot_text, week_text, calendar_text}
use Rattle.row_text.proofs.Fields.{and_true, le_true, bind_ok, chosen_ok, text_at_ok, name_at_takes, number_at_takes, number_again, day_at_takes, end_at_takes, component_at_takes, apart, fields_are}
use Rattle.row_text.proofs.Lots.{chosen_from, lot_at_takes, lot_again, week_at_takes, week_again, calendar_at_takes, calendar_again}

abbrev Rows : Type 0
Rows = Result (Key × Record) FieldFault

-- the fields are those of the row, and the row is sound
abbrev pub IsRowOf : List (List ℕ) → Key × Record → Type 0
IsRowOf fields row = (fields ≡ row_fields row.0 row.1) × (is_sound_row row.0 row.1 ≡ true)

-- the table word at the head of the fields
abbrev pub Heads : List (List ℕ) → List ℕ → Type 0
Heads fields word = slice_get fields 0 ≡ Some word

read_as : (fields : List (List ℕ)) (k : Key) (r : Record) (row : Key × Record) → (k, r) ≡ row → fields ≡ row_fields k r → is_sound_row k r ≡ true → IsRowOf fields row
read_as fields k r row is f s = subst (IsRowOf fields) is (f, s)

same_row : (k : Key) (r : Record) (row : Key × Record) → (let x : Rows = Ok (k, r) in x) ≡ Ok row → (k, r) ≡ row
same_row k r row h = cc

stock_takes : (fields : List (List ℕ)) (row : Key × Record) → Heads fields (codes "STOCK") → stock_of fields ≡ Ok row → IsRowOf fields row
unfolding stock_of row_fields key_fields record_fields
stock_takes fields row first h =
    let a = bind_ok (name_at fields 1) _ row h in
    let b = bind_ok (number_at fields 2 0 1_000_000_000) _ row a.2 in
    let c = bind_ok (end_at fields 3) _ row b.2 in
    let part = name_at_takes fields 1 a.0 a.1 in
    let qty = number_at_takes fields 2 0 1_000_000_000 b.0 (omega arith) b.1 in
    read_as fields (keys.Stock a.0) (records.Stock b.0) row (same_row _ _ row c.2)
    (fields_are fields (codes "STOCK" ∷ a.0 ∷ decimal b.0 ∷ []) (end_at_takes fields 3 c.0 c.1) (first, (part.0, (qty.0, tt))))
    (and_true (and_true (and_true part.1 refl) refl) (le_true b.0 1_000_000_000 qty.2))

demand_takes : (fields : List (List ℕ)) (row : Key × Record) → Heads fields (codes "DEMAND") → demand_of fields ≡ Ok row → IsRowOf fields row
unfolding demand_of row_fields key_fields record_fields
demand_takes fields row first h =
    let a = bind_ok (name_at fields 1) _ row h in
    let b = bind_ok (name_at fields 2) _ row a.2 in
    let c = bind_ok (day_at fields 3) _ row b.2 in
    let d = bind_ok (number_at fields 4 0 1_000_000_000) _ row c.2 in
    let e = bind_ok (end_at fields 5) _ row d.2 in
    let part = name_at_takes fields 1 a.0 a.1 in
    let order = name_at_takes fields 2 b.0 b.1 in
    let day = day_at_takes fields 3 c.0 c.1 in
    let qty = number_at_takes fields 4 0 1_000_000_000 d.0 (omega arith) d.1 in
    read_as fields (keys.Demand a.0 b.0) (records.Demand c.0 d.0) row (same_row _ _ row e.2)
    (fields_are fields (codes "DEMAND" ∷ a.0 ∷ b.0 ∷ day_text c.0 ∷ decimal d.0 ∷ []) (end_at_takes fields 5 e.0 e.1) (first, (part.0, (order.0, (day.0, (qty.0, tt))))))
    (and_true (and_true (and_true (and_true part.1 order.1) refl) day.1) (le_true d.0 1_000_000_000 qty.2))

receipt_takes : (fields : List (List ℕ)) (row : Key × Record) → Heads fields (codes "RECEIPT") → receipt_of fields ≡ Ok row → IsRowOf fields row
unfolding receipt_of row_fields key_fields record_fields
receipt_takes fields row first h =
    let a = bind_ok (name_at fields 1) _ row h in
    let b = bind_ok (name_at fields 2) _ row a.2 in
    let c = bind_ok (day_at fields 3) _ row b.2 in
    let d = bind_ok (number_at fields 4 0 1_000_000_000) _ row c.2 in
    let e = bind_ok (end_at fields 5) _ row d.2 in
    let part = name_at_takes fields 1 a.0 a.1 in
    let order = name_at_takes fields 2 b.0 b.1 in
    let day = day_at_takes fields 3 c.0 c.1 in
    let qty = number_at_takes fields 4 0 1_000_000_000 d.0 (omega arith) d.1 in
    read_as fields (keys.Receipt a.0 b.0) (records.Receipt c.0 d.0) row (same_row _ _ row e.2)
    (fields_are fields (codes "RECEIPT" ∷ a.0 ∷ b.0 ∷ day_text c.0 ∷ decimal d.0 ∷ []) (end_at_takes fields 5 e.0 e.1) (first, (part.0, (order.0, (day.0, (qty.0, tt))))))
    (and_true (and_true (and_true (and_true part.1 order.1) refl) day.1) (le_true d.0 1_000_000_000 qty.2))

holiday_takes : (fields : List (List ℕ)) (row : Key × Record) → Heads fields (codes "HOLIDAY") → holiday_of fields ≡ Ok row → IsRowOf fields row
unfolding holiday_of row_fields key_fields record_fields
holiday_takes fields row first h =
    let a = bind_ok (name_at fields 1) _ row h in
    let b = bind_ok (day_at fields 2) _ row a.2 in
    let c = bind_ok (end_at fields 3) _ row b.2 in
    let calendar = name_at_takes fields 1 a.0 a.1 in
    let day = day_at_takes fields 2 b.0 b.1 in
    read_as fields (keys.Holiday a.0 b.0) records.Holiday row (same_row _ _ row c.2)
    (fields_are fields (codes "HOLIDAY" ∷ a.0 ∷ day_text b.0 ∷ []) (end_at_takes fields 3 c.0 c.1) (first, (calendar.0, (day.0, tt))))
    (and_true (and_true (and_true (and_true calendar.1 day.1) refl) refl) refl)

cal_takes : (fields : List (List ℕ)) (row : Key × Record) → Heads fields (codes "CAL") → cal_of fields ≡ Ok row → IsRowOf fields row
unfolding cal_of row_fields key_fields record_fields
cal_takes fields row first h =
    let a = bind_ok (name_at fields 1) _ row h in
    let b = bind_ok (week_at fields 2) _ row a.2 in
    let c = bind_ok (end_at fields 3) _ row b.2 in
    let calendar = name_at_takes fields 1 a.0 a.1 in
    let week = week_at_takes fields 2 b.0 b.1 in
    read_as fields (keys.Cal a.0) (records.Cal b.0) row (same_row _ _ row c.2)
    (fields_are fields (codes "CAL" ∷ a.0 ∷ week_text b.0 ∷ []) (end_at_takes fields 3 c.0 c.1) (first, (calendar.0, (week.0, tt))))
    (and_true (and_true (and_true calendar.1 refl) refl) week.1)

days_at_takes : (fields : List (List ℕ)) (k start days : ℕ) → days_at fields k start ≡ Ok days → (slice_get fields k ≡ Some (decimal days)) × ((nat_le 1 days && nat_le days 400 && nat_le (start + days) 36525) ≡ true)
unfolding days_at
days_at_takes fields k start days h =
    let a = bind_ok (number_at fields k 1 400) _ days h in
    let fits = chosen_ok (nat_le (start + a.0) 36525) days _ _ days a.2 in
    let number = number_at_takes fields k 1 400 a.0 (omega arith) a.1 in
    let same : a.0 ≡ days = let e = fits.1 in cc in
    (number.0 ∙ ap (λ n. Some (decimal n)) same, ap (λ n. nat_le 1 n && nat_le n 400 && nat_le (start + n) 36525) (sym same) ∙ and_true (and_true (le_true 1 a.0 number.1) (le_true a.0 400 number.2)) fits.0)

plan_takes : (fields : List (List ℕ)) (row : Key × Record) → Heads fields (codes "PLAN") → plan_of fields ≡ Ok row → IsRowOf fields row
unfolding plan_of row_fields key_fields record_fields
plan_takes fields row first h =
    let a = bind_ok (day_at fields 1) _ row h in
    let b = bind_ok (days_at fields 2 a.0) _ row a.2 in
    let c = bind_ok (end_at fields 3) _ row b.2 in
    let start = day_at_takes fields 1 a.0 a.1 in
    let days = days_at_takes fields 2 a.0 b.0 b.1 in
    read_as fields keys.Plan (records.Plan a.0 b.0) row (same_row _ _ row c.2)
    (fields_are fields (codes "PLAN" ∷ day_text a.0 ∷ decimal b.0 ∷ []) (end_at_takes fields 3 c.0 c.1) (first, (start.0, (days.0, tt))))
    (and_true (and_true refl start.1) days.1)

part_takes : (fields : List (List ℕ)) (row : Key × Record) → Heads fields (codes "PART") → part_of fields ≡ Ok row → IsRowOf fields row
unfolding part_of row_fields key_fields record_fields
part_takes fields row first h =
    let a = bind_ok (name_at fields 1) _ row h in
    let b = bind_ok (number_at fields 2 0 365) _ row a.2 in
    let c = bind_ok (lot_at fields 3) _ row b.2 in
    let d = bind_ok (number_at fields 4 0 1_000_000_000) _ row c.2 in
    let e = bind_ok (calendar_at fields 5) _ row d.2 in
    let f = bind_ok (end_at fields 6) _ row e.2 in
    let name = name_at_takes fields 1 a.0 a.1 in
    let lead = number_at_takes fields 2 0 365 b.0 (omega arith) b.1 in
    let lot = lot_at_takes fields 3 c.0 c.1 in
    let safety = number_at_takes fields 4 0 1_000_000_000 d.0 (omega arith) d.1 in
    let calendar = calendar_at_takes fields 5 e.0 e.1 in
    read_as fields (keys.Part a.0) (records.Part b.0 c.0 d.0 e.0) row (same_row _ _ row f.2)
    (fields_are fields (codes "PART" ∷ a.0 ∷ decimal b.0 ∷ lot_text c.0 ∷ decimal d.0 ∷ calendar_text e.0 ∷ []) (end_at_takes fields 6 f.0 f.1) (first, (name.0, (lead.0, (lot.0, (safety.0, (calendar.0, tt)))))))
    (and_true (and_true (and_true name.1 refl) calendar.1) (and_true (and_true (le_true b.0 365 lead.2) lot.1) (le_true d.0 1_000_000_000 safety.2)))

-- bills -------------------------------------------------------------------------------------------------------------------

-- the fields from the place on are those of the span, and none are left
IsSpanAt : List (List ℕ) → ℕ → Option Span → Type 0
IsSpanAt fields k None = length fields ≤ k
IsSpanAt fields k (Some s) = (slice_get fields k ≡ Some (day_text s.from)) × (slice_get fields (k + 1) ≡ Some (day_text s.to)) × (length fields ≤ k + 2) × (is_day s.from ≡ true) × (is_day s.to ≡ true) × (nat_le s.from s.to ≡ true)

to_at_takes : (fields : List (List ℕ)) (k from to : ℕ) → to_at fields k from ≡ Ok to → (slice_get fields k ≡ Some (day_text to)) × (is_day to ≡ true) × (nat_le from to ≡ true)
unfolding to_at
to_at_takes fields k from to h =
    let a = bind_ok (day_at fields k) _ to h in
    let fits = chosen_ok (nat_le from a.0) to _ _ to a.2 in
    let day = day_at_takes fields k a.0 a.1 in
    let same : a.0 ≡ to = let e = fits.1 in cc in
    (day.0 ∙ ap (λ n. Some (day_text n)) same, ap is_day (sym same) ∙ day.1, ap (nat_le from) (sym same) ∙ fits.0)

days_of_span_takes : (fields : List (List ℕ)) (k : ℕ) (span : Option Span) → days_of_span fields k ≡ Ok span → IsSpanAt fields k span
unfolding days_of_span IsSpanAt
days_of_span_takes fields k span h =
    let a = bind_ok (day_at fields k) _ span h in
    let b = bind_ok (to_at fields (k + 1) a.0) _ span a.2 in
    let c = bind_ok (end_at fields (k + 2)) _ span b.2 in
    let from = day_at_takes fields k a.0 a.1 in
    let to = to_at_takes fields (k + 1) a.0 b.0 b.1 in
    let made : Option Span = Some (record { from = a.0; to = b.0 }) in
    let is : made ≡ span = let e = c.2 in cc in
    subst (IsSpanAt fields k) is (from.0, to.0, end_at_takes fields (k + 2) c.0 c.1, from.1, to.1, to.2)

abbrev read_span : Option Span → Result (Option Span) FieldFault
read_span span = Ok span

no_span : (fields : List (List ℕ)) (k : ℕ) (span : Option Span) → nat_le (length fields) k ≡ true → read_span None ≡ read_span span → IsSpanAt fields k span
unfolding IsSpanAt
no_span fields k span is e =
    let none : None ≡ span = cc in
    let short : length fields ≤ k = grind (arith, nat_tests) in
    subst (IsSpanAt fields k) none short

span_at_takes : (fields : List (List ℕ)) (k : ℕ) (span : Option Span) → span_at fields k ≡ Ok span → IsSpanAt fields k span
unfolding span_at
span_at_takes fields k span h =
    chosen_from (IsSpanAt fields k span) _ _ _ _
    (λ is e. no_span fields k span is e)
    (λ _ e. days_of_span_takes fields k span e) h

bill_read : (fields : List (List ℕ)) (parent component : List ℕ) (per : ℕ) (span : Option Span) → Heads fields (codes "BILL") → slice_get fields 1 ≡ Some parent → slice_get fields 2 ≡ Some component → slice_get fields 3 ≡ Some (decimal per)
    → is_name parent ≡ true → is_name component ≡ true → not (name_eq parent component) ≡ true → 1 ≤ per → per ≤ 1_000_000 → IsSpanAt fields 4 span
    → IsRowOf fields (keys.Bill parent component, records.Bill per span)
unfolding IsSpanAt row_fields key_fields record_fields span_fields
bill_read fields parent component per None word p c q np nc other least most short = (
  fields_are fields (codes "BILL" ∷ parent ∷ component ∷ decimal per ∷ []) short (word, (p, (c, (q, tt)))),
  and_true (and_true (and_true (and_true np nc) other) refl) (and_true (and_true (le_true 1 per least) (le_true per 1_000_000 most)) refl),
)
bill_read fields parent component per (Some s) word p c q np nc other least most (from, to, short, df, dt, ft) = (
  fields_are fields (codes "BILL" ∷ parent ∷ component ∷ decimal per ∷ day_text s.from ∷ day_text s.to ∷ []) short (word, (p, (c, (q, (from, (to, tt)))))),
  and_true (and_true (and_true (and_true np nc) other) (and_true df dt)) (and_true (and_true (le_true 1 per least) (le_true per 1_000_000 most)) ft),
)

bill_takes : (fields : List (List ℕ)) (row : Key × Record) → Heads fields (codes "BILL") → bill_of fields ≡ Ok row → IsRowOf fields row
unfolding bill_of
bill_takes fields row first h =
    let a = bind_ok (name_at fields 1) _ row h in
    let b = bind_ok (component_at fields 2 a.0) _ row a.2 in
    let c = bind_ok (number_at fields 3 1 1_000_000) _ row b.2 in
    let d = bind_ok (span_at fields 4) _ row c.2 in
    let parent = name_at_takes fields 1 a.0 a.1 in
    let component = component_at_takes fields 2 a.0 b.0 b.1 in
    let per = number_at_takes fields 3 1 1_000_000 c.0 (omega arith) c.1 in
    subst (IsRowOf fields) (same_row _ _ row d.2)
    (bill_read fields a.0 b.0 c.0 d.0 first parent.0 component.0 per.0 parent.1 component.1 component.2 per.1 per.2 (span_at_takes fields 4 d.0 d.1))

-- all tables --------------------------------------------------------------------------------------------------------------

pub headed : (fields : List (List ℕ)) (word table : List ℕ) → Heads fields word → pointwise nat_eq word table ≡ true → Heads fields table
headed fields word table first is = first ∙ ap Some ((bytes_decides word table).0 is)

table_takes : (word : List ℕ) (fields : List (List ℕ)) (row : Key × Record) → Heads fields word → row_of_table word fields ≡ Ok row → IsRowOf fields row
unfolding row_of_table
table_takes word fields row first h =
    chosen_from (IsRowOf fields row) _ _ _ _ (λ is e. plan_takes fields row (headed fields word (codes "PLAN") first is) e) (λ _.
    chosen_from (IsRowOf fields row) _ _ _ _ (λ is e. cal_takes fields row (headed fields word (codes "CAL") first is) e) (λ _.
    chosen_from (IsRowOf fields row) _ _ _ _ (λ is e. holiday_takes fields row (headed fields word (codes "HOLIDAY") first is) e) (λ _.
    chosen_from (IsRowOf fields row) _ _ _ _ (λ is e. part_takes fields row (headed fields word (codes "PART") first is) e) (λ _.
    chosen_from (IsRowOf fields row) _ _ _ _ (λ is e. stock_takes fields row (headed fields word (codes "STOCK") first is) e) (λ _.
    chosen_from (IsRowOf fields row) _ _ _ _ (λ is e. demand_takes fields row (headed fields word (codes "DEMAND") first is) e) (λ _.
    chosen_from (IsRowOf fields row) _ _ _ _ (λ is e. receipt_takes fields row (headed fields word (codes "RECEIPT") first is) e) (λ _.
    chosen_from (IsRowOf fields row) _ _ _ _ (λ is e. bill_takes fields row (headed fields word (codes "BILL") first is) e) (λ _ e. cc)))))))) h

-- what is read is sound and spelled so
pub row_alone : (fields : List (List ℕ)) (row : Key × Record) → row_of fields ≡ Ok row → IsRowOf fields row
unfolding row_of
row_alone fields row h =
    let word = bind_ok (text_at fields 0) _ row h in
    table_takes word.0 fields row (text_at_ok fields 0 word.0 word.1) word.2

-- the other way -----------------------------------------------------------------------------------------------------------

pub apart_again : (parent component : List ℕ) → not (name_eq parent component) ≡ true → pointwise nat_eq parent component ≡ false
apart_again parent component h = apart parent component ∙ inside (name_eq parent component) h
  where
    inside : (t : Bool) → not t ≡ true → t ≡ false
    inside false h = refl
    inside true h = cc

-- the parts of a sound row
record IsSoundParts (k : Key) (r : Record) : Type 0 where
  pub names : key_has_names k ≡ true
  pub apart : are_apart k ≡ true
  pub dates : record_has_names r ≡ true
  pub within : is_within k r ≡ true

parts_of : (k : Key) (r : Record) → is_sound_row k r ≡ true → IsSoundParts k r
parts_of k r h =
    let outer = and_parts (is_sound_key k && record_has_names r) (is_within k r) h in
    let inner = and_parts (is_sound_key k) (record_has_names r) outer.0 in
    let key = and_parts (key_has_names k) (are_apart k) inner.0 in
    record { names = key.0; apart = key.1; dates = inner.1; within = outer.1 }

most_is : (n most : ℕ) → nat_le n most ≡ true → n ≤ most
most_is n most h = grind (arith, nat_tests)

-- what is sound is read as it is spelled
pub row_again : (k : Key) (r : Record) → is_sound_row k r ≡ true → row_of (row_fields k r) ≡ Ok (k, r)
unfolding row_of row_of_table plan_of cal_of holiday_of part_of stock_of demand_of receipt_of bill_of span_at days_of_span to_at component_at days_at week_at lot_at calendar_at name_at name_in number_at day_at text_at end_at row_fields key_fields record_fields span_fields
row_again keys.Plan (records.Plan start days) h =
    let p = parts_of keys.Plan (records.Plan start days) h in
    let fits = and_parts (nat_le 1 days && nat_le days 400) (nat_le (start + days) 36525) p.within in
    let range = and_parts (nat_le 1 days) (nat_le days 400) fits.0 in
    rw (day_read_again start p.dates, number_again 1 400 days (omega arith) (most_is 1 days range.0) (most_is days 400 range.1), fits.1)
row_again (keys.Cal n) (records.Cal week) h =
    let p = parts_of (keys.Cal n) (records.Cal week) h in
    rw (p.names, week_again week p.within)
row_again (keys.Holiday n d) records.Holiday h =
    let p = parts_of (keys.Holiday n d) records.Holiday h in
    let names = and_parts (is_name n) (is_day d) p.names in
    rw (names.0, day_read_again d names.1)
row_again (keys.Part n) (records.Part lead lot safety calendar) h =
    let p = parts_of (keys.Part n) (records.Part lead lot safety calendar) h in
    let fits = and_parts (nat_le lead 365 && is_sound_lot lot) (is_quantity safety) p.within in
    let range = and_parts (nat_le lead 365) (is_sound_lot lot) fits.0 in
    rw (p.names, number_again 0 365 lead (omega arith) (omega arith) (most_is lead 365 range.0), lot_again lot range.1, number_again 0 1_000_000_000 safety (omega arith) (omega arith) (most_is safety 1_000_000_000 fits.1), calendar_again calendar p.dates)
row_again (keys.Stock n) (records.Stock qty) h =
    let p = parts_of (keys.Stock n) (records.Stock qty) h in
    rw (p.names, number_again 0 1_000_000_000 qty (omega arith) (omega arith) (most_is qty 1_000_000_000 p.within))
row_again (keys.Demand n o) (records.Demand day qty) h =
    let p = parts_of (keys.Demand n o) (records.Demand day qty) h in
    let names = and_parts (is_name n) (is_name o) p.names in
    rw (names.0, names.1, day_read_again day p.dates, number_again 0 1_000_000_000 qty (omega arith) (omega arith) (most_is qty 1_000_000_000 p.within))
row_again (keys.Receipt n o) (records.Receipt day qty) h =
    let p = parts_of (keys.Receipt n o) (records.Receipt day qty) h in
    let names = and_parts (is_name n) (is_name o) p.names in
    rw (names.0, names.1, day_read_again day p.dates, number_again 0 1_000_000_000 qty (omega arith) (omega arith) (most_is qty 1_000_000_000 p.within))
row_again (keys.Bill parent component) (records.Bill per None) h =
    let p = parts_of (keys.Bill parent component) (records.Bill per None) h in
    let names = and_parts (is_name parent) (is_name component) p.names in
    let fits = and_parts (nat_le 1 per && nat_le per 1_000_000) true p.within in
    let range = and_parts (nat_le 1 per) (nat_le per 1_000_000) fits.0 in
    rw (names.0, names.1, apart_again parent component p.apart, number_again 1 1_000_000 per (omega arith) (most_is 1 per range.0) (most_is per 1_000_000 range.1))
row_again (keys.Bill parent component) (records.Bill per (Some s)) h =
    let p = parts_of (keys.Bill parent component) (records.Bill per (Some s)) h in
    let names = and_parts (is_name parent) (is_name component) p.names in
    let dates = and_parts (is_day s.from) (is_day s.to) p.dates in
    let fits = and_parts (nat_le 1 per && nat_le per 1_000_000) (nat_le s.from s.to) p.within in
    let range = and_parts (nat_le 1 per) (nat_le per 1_000_000) fits.0 in
    rw (names.0, names.1, apart_again parent component p.apart, number_again 1 1_000_000 per (omega arith) (most_is 1 per range.0) (most_is per 1_000_000 range.1), day_read_again s.from dates.0, day_read_again s.to dates.1, fits.1)
row_again k r h = let p = parts_of k r h in let no : false ≡ true = p.within in absurd (let never : ⊥ = cc in never)

pub sound_if_read : (fields : List (List ℕ)) (r : Rows) → r ≡ row_of fields → IfOk r (λ row. is_sound_row row.0 row.1 ≡ true)
sound_if_read fields (Ok row) e = (row_alone fields row (sym e)).1
sound_if_read fields (Err fault) e = tt
