-- What stands behind the first eight fields is not looked at.
use Rattle.std.proofs.Common.{◌≡◌, ℕ, zero, suc, ◌+◌, ◌<◌, ◌≤◌, nat_le, nat_eq, List, [], ◌∷◌, length, take, drop, cond, Ok, Err, refl, sym, ap, ◌∙◌, arith}
use Rattle.std.specs.Prelude.{codes}
use Rattle.std.specs.List.{slice_get}
use Rattle.std.specs.Cmp.Lexicographic.{pointwise}
use Rattle.std.proofs.lemmas.Bool.Decides.{nat_tests}
use Rattle.plan_schema.specs.declared.key.Key.{Key}
use Rattle.plan_schema.specs.declared.key.Key.TheVariants as keys
use Rattle.plan_schema.specs.declared.key.Record.TheVariants as records
use Rattle.plan_schema.specs.declared.fault.Rule.TheVariants.{Shape, Range, Own}
use Rattle.plan_schema.specs.declared.fault.FieldFault.{FieldFault}
use Rattle.plan_schema.specs.Day.{day_of}
use Rattle.row_text.specs.Number.{number_of}
use Rattle.row_text.specs.Row.{◌>>=◌, at_field, text_of_field, text_at, end_at, name_in, name_at, number_at, day_at, component_at, to_at, days_of_span, span_at, days_at, plan_of, week_of, week_at, cal_of, holiday_of, lot_of, lot_at, calendar_in, calendar_at, part_of, stock_of, demand_of, receipt_of, bill_of, row_of_table, row_of, one_name, two_names, holiday_key_of, bill_key_of, key_of_table, key_of}

-- a field among the first m
pub get_few : (m k : ℕ) (fs : List (List ℕ)) → k < m → slice_get (take m fs) k ≡ slice_get fs k
get_few zero k fs h = absurd (omega arith)
get_few (suc m) k [] h = refl
get_few (suc m) zero (f ∷ fs) h = refl
get_few (suc m) (suc k) (f ∷ fs) h = get_few m k fs (omega arith)

long_few : (m k : ℕ) (fs : List (List ℕ)) → k < m → nat_le (length (take m fs)) k ≡ nat_le (length fs) k
long_few zero k fs h = absurd (omega arith)
long_few (suc m) k [] h = refl
long_few (suc m) zero (f ∷ fs) h = grind (arith, nat_tests)
long_few (suc m) (suc k) (f ∷ fs) h = let e = long_few m k fs (omega arith) in grind (arith, nat_tests)

pub text_few : (m k : ℕ) (fs : List (List ℕ)) → k < m → text_at (take m fs) k ≡ text_at fs k
unfolding text_at
text_few m k fs h = ap (text_of_field k) (get_few m k fs h)

pub end_few : (m k : ℕ) (fs : List (List ℕ)) → k < m → end_at (take m fs) k ≡ end_at fs k
unfolding end_at
end_few m k fs h = ap (λ b. cond b (Ok tt) (Err (record { field = k; rule = Shape }))) (long_few m k fs h)

pub name_few : (m k : ℕ) (fs : List (List ℕ)) → k < m → name_at (take m fs) k ≡ name_at fs k
unfolding name_at
name_few m k fs h = λ i. text_few m k fs h i >>= (λ text. at_field k (name_in text))

pub number_few : (m k low high : ℕ) (fs : List (List ℕ)) → k < m → number_at (take m fs) k low high ≡ number_at fs k low high
unfolding number_at
number_few m k low high fs h = λ i. text_few m k fs h i >>= (λ text. at_field k (number_of low high text))

pub day_few : (m k : ℕ) (fs : List (List ℕ)) → k < m → day_at (take m fs) k ≡ day_at fs k
unfolding day_at
day_few m k fs h = λ i. text_few m k fs h i >>= (λ text. at_field k (day_of text))

component_few : (m k : ℕ) (fs : List (List ℕ)) (parent : List ℕ) → k < m → component_at (take m fs) k parent ≡ component_at fs k parent
unfolding component_at
component_few m k fs parent h = rw (name_few m k fs h) refl

span_few : (m : ℕ) (fs : List (List ℕ)) → 8 ≤ m → span_at (take m fs) 4 ≡ span_at fs 4
unfolding span_at days_of_span to_at
span_few m fs h = rw (long_few m 4 fs (omega arith), day_few m 4 fs (omega arith), day_few m 5 fs (omega arith), end_few m 6 fs (omega arith)) refl

-- rows ------------------------------------------------------------------------------------------------------------------------

plan_few : (m : ℕ) (fs : List (List ℕ)) → 8 ≤ m → plan_of (take m fs) ≡ plan_of fs
unfolding plan_of days_at
plan_few m fs h = λ i. do
  start ← day_few m 1 fs (omega arith) i
  days ← (number_few m 2 1 400 fs (omega arith) i >>= (λ days. cond (nat_le (start + days) 36525) (Ok days) (Err (record { field = 2; rule = Range }))))
  _ ← end_few m 3 fs (omega arith) i
  Ok (keys.Plan, records.Plan start days)

cal_few : (m : ℕ) (fs : List (List ℕ)) → 8 ≤ m → cal_of (take m fs) ≡ cal_of fs
unfolding cal_of week_at
cal_few m fs h = λ i. do
  name ← name_few m 1 fs (omega arith) i
  week ← (text_few m 2 fs (omega arith) i >>= (λ text. at_field 2 (week_of text)))
  _ ← end_few m 3 fs (omega arith) i
  Ok (keys.Cal name, records.Cal week)

holiday_few : (m : ℕ) (fs : List (List ℕ)) → 8 ≤ m → holiday_of (take m fs) ≡ holiday_of fs
unfolding holiday_of
holiday_few m fs h = λ i. do
  calendar ← name_few m 1 fs (omega arith) i
  day ← day_few m 2 fs (omega arith) i
  _ ← end_few m 3 fs (omega arith) i
  Ok (keys.Holiday calendar day, records.Holiday)

part_few : (m : ℕ) (fs : List (List ℕ)) → 8 ≤ m → part_of (take m fs) ≡ part_of fs
unfolding part_of lot_at calendar_at
part_few m fs h = λ i. do
  name ← name_few m 1 fs (omega arith) i
  lead ← number_few m 2 0 365 fs (omega arith) i
  lot ← (text_few m 3 fs (omega arith) i >>= (λ text. at_field 3 (lot_of text)))
  safety ← number_few m 4 0 1_000_000_000 fs (omega arith) i
  calendar ← (text_few m 5 fs (omega arith) i >>= (λ text. at_field 5 (calendar_in text)))
  _ ← end_few m 6 fs (omega arith) i
  Ok (keys.Part name, records.Part lead lot safety calendar)

stock_few : (m : ℕ) (fs : List (List ℕ)) → 8 ≤ m → stock_of (take m fs) ≡ stock_of fs
unfolding stock_of
stock_few m fs h = λ i. do
  part ← name_few m 1 fs (omega arith) i
  qty ← number_few m 2 0 1_000_000_000 fs (omega arith) i
  _ ← end_few m 3 fs (omega arith) i
  Ok (keys.Stock part, records.Stock qty)

demand_few : (m : ℕ) (fs : List (List ℕ)) → 8 ≤ m → demand_of (take m fs) ≡ demand_of fs
unfolding demand_of
demand_few m fs h = λ i. do
  part ← name_few m 1 fs (omega arith) i
  order ← name_few m 2 fs (omega arith) i
  day ← day_few m 3 fs (omega arith) i
  qty ← number_few m 4 0 1_000_000_000 fs (omega arith) i
  _ ← end_few m 5 fs (omega arith) i
  Ok (keys.Demand part order, records.Demand day qty)

receipt_few : (m : ℕ) (fs : List (List ℕ)) → 8 ≤ m → receipt_of (take m fs) ≡ receipt_of fs
unfolding receipt_of
receipt_few m fs h = λ i. do
  part ← name_few m 1 fs (omega arith) i
  order ← name_few m 2 fs (omega arith) i
  day ← day_few m 3 fs (omega arith) i
  qty ← number_few m 4 0 1_000_000_000 fs (omega arith) i
  _ ← end_few m 5 fs (omega arith) i
  Ok (keys.Receipt part order, records.Receipt day qty)

bill_few : (m : ℕ) (fs : List (List ℕ)) → 8 ≤ m → bill_of (take m fs) ≡ bill_of fs
unfolding bill_of
bill_few m fs h = λ i. do
  parent ← name_few m 1 fs (omega arith) i
  component ← component_few m 2 fs parent (omega arith) i
  per ← number_few m 3 1 1_000_000 fs (omega arith) i
  span ← span_few m fs h i
  Ok (keys.Bill parent component, records.Bill per span)

table_few : (m : ℕ) (word : List ℕ) (fs : List (List ℕ)) → 8 ≤ m → row_of_table word (take m fs) ≡ row_of_table word fs
unfolding row_of_table
table_few m word fs h = rw (plan_few m fs h, cal_few m fs h, holiday_few m fs h, part_few m fs h, stock_few m fs h, demand_few m fs h, receipt_few m fs h, bill_few m fs h) refl

pub row_few : (m : ℕ) (fs : List (List ℕ)) → 8 ≤ m → row_of (take m fs) ≡ row_of fs
unfolding row_of
row_few m fs h = λ i. text_few m 0 fs (omega arith) i >>= (λ word. table_few m word fs h i)

-- keys ------------------------------------------------------------------------------------------------------------------------

one_few : (m : ℕ) (fs : List (List ℕ)) (key : List ℕ → Key) → 8 ≤ m → one_name (take m fs) key ≡ one_name fs key
unfolding one_name
one_few m fs key h = λ i. do
  name ← name_few m 1 fs (omega arith) i
  _ ← end_few m 2 fs (omega arith) i
  Ok (key name)

two_few : (m : ℕ) (fs : List (List ℕ)) (key : List ℕ → List ℕ → Key) → 8 ≤ m → two_names (take m fs) key ≡ two_names fs key
unfolding two_names
two_few m fs key h = λ i. do
  part ← name_few m 1 fs (omega arith) i
  order ← name_few m 2 fs (omega arith) i
  _ ← end_few m 3 fs (omega arith) i
  Ok (key part order)

holiday_key_few : (m : ℕ) (fs : List (List ℕ)) → 8 ≤ m → holiday_key_of (take m fs) ≡ holiday_key_of fs
unfolding holiday_key_of
holiday_key_few m fs h = λ i. do
  calendar ← name_few m 1 fs (omega arith) i
  day ← day_few m 2 fs (omega arith) i
  _ ← end_few m 3 fs (omega arith) i
  Ok (keys.Holiday calendar day)

bill_key_few : (m : ℕ) (fs : List (List ℕ)) → 8 ≤ m → bill_key_of (take m fs) ≡ bill_key_of fs
unfolding bill_key_of
bill_key_few m fs h = λ i. do
  parent ← name_few m 1 fs (omega arith) i
  component ← component_few m 2 fs parent (omega arith) i
  _ ← end_few m 3 fs (omega arith) i
  Ok (keys.Bill parent component)

key_table_few : (m : ℕ) (word : List ℕ) (fs : List (List ℕ)) → 8 ≤ m → key_of_table word (take m fs) ≡ key_of_table word fs
unfolding key_of_table
key_table_few m word fs h = rw (one_few m fs keys.Cal h, holiday_key_few m fs h, one_few m fs keys.Part h, one_few m fs keys.Stock h, two_few m fs keys.Demand h, two_few m fs keys.Receipt h, bill_key_few m fs h) refl

pub key_few : (m : ℕ) (fs : List (List ℕ)) → 8 ≤ m → key_of (take m fs) ≡ key_of fs
unfolding key_of
key_few m fs h = λ i. text_few m 0 fs (omega arith) i >>= (λ word. key_table_few m word fs h i)
