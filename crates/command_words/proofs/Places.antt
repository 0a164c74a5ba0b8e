-- The faulty field of a row, or of a key form, is one of its first.
use Rattle.std.proofs.Common.{◌≡◌, ℕ, ◌+◌, ◌-◌, ◌≤◌, min, Bool, true, false, cond, nat_le, List, length, take, drop, Option, Some, None, Result, Ok, Err, sym, ap, ◌∙◌, subst, arith, take_all, length-drop}
use Rattle.std.specs.Borrow.{Bor}
use Rattle.std.proofs.lemmas.List.{drop_min, drop-map}
use Rattle.row_text.specs.Texts.{texts}
use Rattle.std.specs.Prelude.{[], ◌∷◌, codes, IfErr, nat_eq}
use Rattle.std.specs.List.{slice_get}
use Rattle.std.specs.Cmp.Lexicographic.{pointwise}
use Rattle.plan_schema.specs.declared.fault.Rule.{Rule}
use Rattle.plan_schema.specs.declared.fault.Rule.TheVariants.{Shape}
use Rattle.plan_schema.specs.declared.fault.FieldFault.{FieldFault}
use Rattle.plan_schema.specs.declared.key.Key.{Key}
use Rattle.plan_schema.specs.declared.key.Key.TheVariants as keys
use Rattle.plan_schema.specs.declared.key.Record.{Record}
use Rattle.plan_schema.specs.Day.{day_of}
use Rattle.row_text.specs.Number.{number_of}
use Rattle.row_text.specs.Row.{◌>>=◌, at_field, text_of_field, text_at, end_at, name_in, name_at, number_at, day_at, component_at, to_at, days_of_span, span_at, days_at, plan_of, week_of, week_at, cal_of, holiday_of, lot_of, lot_at, calendar_in, calendar_at, part_of, stock_of, demand_of, receipt_of, bill_of, row_of_table, row_of, one_name, two_names, holiday_key_of, bill_key_of, key_of_table, key_of}

-- a fault is at a field up to this one
abbrev pub Within : {A : Type 0} → ℕ → Result A FieldFault → Type 0
Within k r = IfErr r (λ fault. fault.field ≤ k)

bind_within : {A B : Type 0} (k : ℕ) (r : Result A FieldFault) (f : A → Result B FieldFault) → Within k r → ((x : A) → Within k (f x)) → Within k (r >>= f)
bind_within k (Ok x) f first then_ = then_ x
bind_within k (Err e) f first then_ = first

chosen_within : {A : Type 0} (k : ℕ) (b : Bool) (r s : Result A FieldFault) → Within k r → Within k s → Within k (cond b r s)
chosen_within k b r s so otherwise = elim b as (λ v. Within k (cond v r s)) [ true ↦ so | false ↦ otherwise ]

-- what the first word that fits chooses
abbrev chosen : {A : Type 0} → List (List ℕ × Result A FieldFault) → List ℕ → Result A FieldFault
chosen [] word = Err (record { field = 0; rule = Shape })
chosen (choice ∷ choices) word = cond (pointwise nat_eq word choice.0) choice.1 (chosen choices word)

abbrev AllWithin : {A : Type 0} → ℕ → List (List ℕ × Result A FieldFault) → Type 0
AllWithin k [] = Unit {0}
AllWithin k (choice ∷ choices) = Within k choice.1 × AllWithin k choices

all_within : {A : Type 0} (k : ℕ) (choices : List (List ℕ × Result A FieldFault)) (word : List ℕ) → AllWithin k choices → Within k (chosen choices word)
all_within k [] word h = omega arith
all_within k (choice ∷ choices) word h = chosen_within k (pointwise nat_eq word choice.0) choice.1 (chosen choices word) h.0 (all_within k choices word h.1)

of_field_within : (j k : ℕ) (o : Option (List ℕ)) → j ≤ k → Within k (text_of_field j o)
of_field_within j k (Some text) le = tt
of_field_within j k None le = le

at_field_within : {A : Type 0} (j k : ℕ) (r : Result A Rule) → j ≤ k → Within k (at_field j r)
at_field_within j k (Ok x) le = tt
at_field_within j k (Err rule) le = le

text_within : (fields : List (List ℕ)) (j k : ℕ) → j ≤ k → Within k (text_at fields j)
unfolding text_at
text_within fields j k le = of_field_within j k (slice_get fields j) le

-- a field that is read from its text alone
read_within : {A : Type 0} (fields : List (List ℕ)) (j k : ℕ) (read : List ℕ → Result A Rule) → j ≤ k → Within k (text_at fields j >>= (λ text. at_field j (read text)))
read_within fields j k read le = bind_within k (text_at fields j) (λ text. at_field j (read text)) (text_within fields j k le) (λ text. at_field_within j k (read text) le)

end_within : (fields : List (List ℕ)) (j k : ℕ) → j ≤ k → Within k (end_at fields j)
unfolding end_at
end_within fields j k le = chosen_within k (nat_le (length fields) j) (Ok tt) _ tt le

name_within : (fields : List (List ℕ)) (j k : ℕ) → j ≤ k → Within k (name_at fields j)
unfolding name_at
name_within fields j k le = read_within fields j k name_in le

number_within : (fields : List (List ℕ)) (j low high k : ℕ) → j ≤ k → Within k (number_at fields j low high)
unfolding number_at
number_within fields j low high k le = read_within fields j k (number_of low high) le

day_within : (fields : List (List ℕ)) (j k : ℕ) → j ≤ k → Within k (day_at fields j)
unfolding day_at
day_within fields j k le = read_within fields j k day_of le

week_within : (fields : List (List ℕ)) (j k : ℕ) → j ≤ k → Within k (week_at fields j)
unfolding week_at
week_within fields j k le = read_within fields j k week_of le

lot_within : (fields : List (List ℕ)) (j k : ℕ) → j ≤ k → Within k (lot_at fields j)
unfolding lot_at
lot_within fields j k le = read_within fields j k lot_of le

calendar_within : (fields : List (List ℕ)) (j k : ℕ) → j ≤ k → Within k (calendar_at fields j)
unfolding calendar_at
calendar_within fields j k le = read_within fields j k calendar_in le

component_within : (fields : List (List ℕ)) (j : ℕ) (parent : List ℕ) (k : ℕ) → j ≤ k → Within k (component_at fields j parent)
unfolding component_at
component_within fields j parent k le = bind_within k (name_at fields j) _ (name_within fields j k le) (λ name. chosen_within k (pointwise nat_eq parent name) _ (Ok name) le tt)

to_within : (fields : List (List ℕ)) (j from k : ℕ) → j ≤ k → Within k (to_at fields j from)
unfolding to_at
to_within fields j from k le = bind_within k (day_at fields j) _ (day_within fields j k le) (λ to. chosen_within k (nat_le from to) (Ok to) _ tt le)

days_within : (fields : List (List ℕ)) (j start k : ℕ) → j ≤ k → Within k (days_at fields j start)
unfolding days_at
days_within fields j start k le = bind_within k (number_at fields j 1 400) _ (number_within fields j 1 400 k le) (λ days. chosen_within k (nat_le (start + days) 36525) (Ok days) _ tt le)

span_within : (fields : List (List ℕ)) → Within 6 (span_at fields 4)
unfolding span_at days_of_span
span_within fields =
    chosen_within 6 (nat_le (length fields) 4) (Ok None) _ tt (
    bind_within 6 (day_at fields 4) _ (day_within fields 4 6 (omega arith)) (λ from.
    bind_within 6 (to_at fields 5 from) _ (to_within fields 5 from 6 (omega arith)) (λ to.
    bind_within 6 (end_at fields 6) _ (end_within fields 6 6 (omega arith)) (λ _. tt))))

-- rows by their tables ----------------------------------------------------------------------------------------------------

plan_within : (fields : List (List ℕ)) → Within 6 (plan_of fields)
unfolding plan_of
plan_within fields =
    bind_within 6 (day_at fields 1) _ (day_within fields 1 6 (omega arith)) (λ start.
    bind_within 6 (days_at fields 2 start) _ (days_within fields 2 start 6 (omega arith)) (λ days.
    bind_within 6 (end_at fields 3) _ (end_within fields 3 6 (omega arith)) (λ _. tt)))

cal_within : (fields : List (List ℕ)) → Within 6 (cal_of fields)
unfolding cal_of
cal_within fields =
    bind_within 6 (name_at fields 1) _ (name_within fields 1 6 (omega arith)) (λ name.
    bind_within 6 (week_at fields 2) _ (week_within fields 2 6 (omega arith)) (λ week.
    bind_within 6 (end_at fields 3) _ (end_within fields 3 6 (omega arith)) (λ _. tt)))

holiday_within : (fields : List (List ℕ)) → Within 6 (holiday_of fields)
unfolding holiday_of
holiday_within fields =
    bind_within 6 (name_at fields 1) _ (name_within fields 1 6 (omega arith)) (λ calendar.
    bind_within 6 (day_at fields 2) _ (day_within fields 2 6 (omega arith)) (λ day.
    bind_within 6 (end_at fields 3) _ (end_within fields 3 6 (omega arith)) (λ _. tt)))

part_within : (fields : List (List ℕ)) → Within 6 (part_of fields)
unfolding part_of
part_within fields =
    bind_within 6 (name_at fields 1) _ (name_within fields 1 6 (omega arith)) (λ name.
    bind_within 6 (number_at fields 2 0 365) _ (number_within fields 2 0 365 6 (omega arith)) (λ lead.
    bind_within 6 (lot_at fields 3) _ (lot_within fields 3 6 (omega arith)) (λ lot.
    bind_within 6 (number_at fields 4 0 1_000_000_000) _ (number_within fields 4 0 1_000_000_000 6 (omega arith)) (λ safety.
    bind_within 6 (calendar_at fields 5) _ (calendar_within fields 5 6 (omega arith)) (λ calendar.
    bind_within 6 (end_at fields 6) _ (end_within fields 6 6 (omega arith)) (λ _. tt))))))

stock_within : (fields : List (List ℕ)) → Within 6 (stock_of fields)
unfolding stock_of
stock_within fields =
    bind_within 6 (name_at fields 1) _ (name_within fields 1 6 (omega arith)) (λ part.
    bind_within 6 (number_at fields 2 0 1_000_000_000) _ (number_within fields 2 0 1_000_000_000 6 (omega arith)) (λ qty.
    bind_within 6 (end_at fields 3) _ (end_within fields 3 6 (omega arith)) (λ _. tt)))

demand_within : (fields : List (List ℕ)) → Within 6 (demand_of fields)
unfolding demand_of
demand_within fields =
    bind_within 6 (name_at fields 1) _ (name_within fields 1 6 (omega arith)) (λ part.
    bind_within 6 (name_at fields 2) _ (name_within fields 2 6 (omega arith)) (λ order.
    bind_within 6 (day_at fields 3) _ (day_within fields 3 6 (omega arith)) (λ day.
    bind_within 6 (number_at fields 4 0 1_000_000_000) _ (number_within fields 4 0 1_000_000_000 6 (omega arith)) (λ qty.
    bind_within 6 (end_at fields 5) _ (end_within fields 5 6 (omega arith)) (λ _. tt)))))

receipt_within : (fields : List (List ℕ)) → Within 6 (receipt_of fields)
unfolding receipt_of
receipt_within fields =
    bind_within 6 (name_at fields 1) _ (name_within fields 1 6 (omega arith)) (λ part.
    bind_within 6 (name_at fields 2) _ (name_within fields 2 6 (omega arith)) (λ order.
    bind_within 6 (day_at fields 3) _ (day_within fields 3 6 (omega arith)) (λ day.
    bind_within 6 (number_at fields 4 0 1_000_000_000) _ (number_within fields 4 0 1_000_000_000 6 (omega arith)) (λ qty.
    bind_within 6 (end_at fields 5) _ (end_within fields 5 6 (omega arith)) (λ _. tt)))))

bill_within : (fields : List (List ℕ)) → Within 6 (bill_of fields)
unfolding bill_of
bill_within fields =
    bind_within 6 (name_at fields 1) _ (name_within fields 1 6 (omega arith)) (λ parent.
    bind_within 6 (component_at fields 2 parent) _ (component_within fields 2 parent 6 (omega arith)) (λ component.
    bind_within 6 (number_at fields 3 1 1_000_000) _ (number_within fields 3 1 1_000_000 6 (omega arith)) (λ per.
    bind_within 6 (span_at fields 4) _ (span_within fields) (λ span. tt))))

row_within : (fields : List (List ℕ)) → Within 6 (row_of fields)
unfolding row_of row_of_table
row_within fields =
    bind_within 6 (text_at fields 0) _ (text_within fields 0 6 (omega arith)) (λ word.
    all_within 6 ((codes "PLAN", plan_of fields) ∷ (codes "CAL", cal_of fields) ∷ (codes "HOLIDAY", holiday_of fields) ∷ (codes "PART", part_of fields)
    ∷ (codes "STOCK", stock_of fields) ∷ (codes "DEMAND", demand_of fields) ∷ (codes "RECEIPT", receipt_of fields) ∷ (codes "BILL", bill_of fields) ∷ []) word
    (plan_within fields, (cal_within fields, (holiday_within fields, (part_within fields, (stock_within fields, (demand_within fields, (receipt_within fields, (bill_within fields, tt)))))))))

-- key forms by their tables ---------------------------------------------------------------------------------------------

one_within : (fields : List (List ℕ)) (key : List ℕ → Key) → Within 6 (one_name fields key)
unfolding one_name
one_within fields key =
    bind_within 6 (name_at fields 1) _ (name_within fields 1 6 (omega arith)) (λ name.
    bind_within 6 (end_at fields 2) _ (end_within fields 2 6 (omega arith)) (λ _. tt))

two_within : (fields : List (List ℕ)) (key : List ℕ → List ℕ → Key) → Within 6 (two_names fields key)
unfolding two_names
two_within fields key =
    bind_within 6 (name_at fields 1) _ (name_within fields 1 6 (omega arith)) (λ part.
    bind_within 6 (name_at fields 2) _ (name_within fields 2 6 (omega arith)) (λ order.
    bind_within 6 (end_at fields 3) _ (end_within fields 3 6 (omega arith)) (λ _. tt)))

holiday_key_within : (fields : List (List ℕ)) → Within 6 (holiday_key_of fields)
unfolding holiday_key_of
holiday_key_within fields =
    bind_within 6 (name_at fields 1) _ (name_within fields 1 6 (omega arith)) (λ calendar.
    bind_within 6 (day_at fields 2) _ (day_within fields 2 6 (omega arith)) (λ day.
    bind_within 6 (end_at fields 3) _ (end_within fields 3 6 (omega arith)) (λ _. tt)))

bill_key_within : (fields : List (List ℕ)) → Within 6 (bill_key_of fields)
unfolding bill_key_of
bill_key_within fields =
    bind_within 6 (name_at fields 1) _ (name_within fields 1 6 (omega arith)) (λ parent.
    bind_within 6 (component_at fields 2 parent) _ (component_within fields 2 parent 6 (omega arith)) (λ component.
    bind_within 6 (end_at fields 3) _ (end_within fields 3 6 (omega arith)) (λ _. tt)))

key_within : (fields : List (List ℕ)) → Within 6 (key_of fields)
unfolding key_of key_of_table
key_within fields =
    bind_within 6 (text_at fields 0) _ (text_within fields 0 6 (omega arith)) (λ word.
    all_within 6 ((codes "CAL", one_name fields keys.Cal) ∷ (codes "HOLIDAY", holiday_key_of fields) ∷ (codes "PART", one_name fields keys.Part)
    ∷ (codes "STOCK", one_name fields keys.Stock) ∷ (codes "DEMAND", two_names fields keys.Demand) ∷ (codes "RECEIPT", two_names fields keys.Receipt)
    ∷ (codes "BILL", bill_key_of fields) ∷ []) word
    (one_within fields keys.Cal, (holiday_key_within fields, (one_within fields keys.Part, (one_within fields keys.Stock, (two_within fields keys.Demand, (two_within fields keys.Receipt, (bill_key_within fields, tt))))))))

-- the same of what was read
pub row_fault_within : (fields : List (List ℕ)) (r : Result (Key × Record) FieldFault) (fault : FieldFault) → r ≡ row_of fields → r ≡ Err fault → fault.field ≤ 6
row_fault_within fields r fault of is = subst (Within 6) (let e : row_of fields ≡ Err fault = cc in e) (row_within fields)

pub key_fault_within : (fields : List (List ℕ)) (r : Result Key FieldFault) (fault : FieldFault) → r ≡ key_of fields → r ≡ Err fault → fault.field ≤ 6
key_fault_within fields r fault of is = subst (Within 6) (let e : key_of fields ≡ Err fault = cc in e) (key_within fields)

-- the texts of the words behind the first two
pub texts_behind_two : (words : List (Bor (List ℕ))) (n : ℕ) → n ≡ min (length words) 2 → texts (take (length words - n) (drop n words)) ≡ drop 2 (texts words)
texts_behind_two words n is =
    let two : n ≡ min 2 (length words) = omega arith in
    ap texts (take_all (length words - n) (drop n words) (omega (arith, length-drop n words)) ∙ ap (λ m. drop m words) two ∙ drop_min 2 words)
    ∙ sym (drop-map (λ (b : Bor (List ℕ)). b.now) 2 words)
