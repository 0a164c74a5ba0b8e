-- Sums grow row by row.
use Rattle.std.proofs.Common.{◌≡◌, ℕ, zero, suc, ◌+◌, ◌*◌, ◌<◌, ◌≤◌, List, [], ◌∷◌, ◌++◌, length, get_or, refl, sym, ◌∙◌, ap, subst, arith, Bool, true, false, cond, ◌&&◌, nat_le, ◌^◌, All, append_assoc, inl, inr}
use Rattle.std.proofs.Math.Nat.{mul-le-mul}
use Rattle.plan_schema.specs.Sound.{is_sound_key, record_has_names, is_within, is_sound_span}
use Rattle.std.proofs.lemmas.List.Elements.{filter_map-append, All-from_recursion}
use Rattle.std.proofs.lemmas.List.Sums.{sum_by-append}
use Rattle.std.proofs.lemmas.List.FromFn.{length-map-range_with_len, get_or-map-range_with_len}
use Rattle.std.specs.Prelude.{Some, None, slice_index, filter_map}
use Rattle.std.specs.List.{AllByRecursion}
use Rattle.std.proofs.lemmas.Bool.{and_parts, cases_lt}
use Rattle.std.proofs.lemmas.Bool.Decides.{nat_tests}
use Rattle.plan_schema.specs.Sound.{is_sound_row, are_sound_rows}
use Rattle.planning_rules.specs.Netting.{limit}
use Rattle.plan_schema.specs.declared.name.Name.{Name}
use Rattle.plan_schema.specs.declared.key.Key.{Key}
use Rattle.plan_schema.specs.declared.key.Key.TheVariants as keys
use Rattle.plan_schema.specs.declared.key.Record.{Record}
use Rattle.plan_schema.specs.declared.key.Record.TheVariants as records
use Rattle.planning_rules.specs.Bills.{ParentBill, is_effective}
use Rattle.planning_rules.specs.Days.{counts_on}
use Rattle.planning_rules.specs.Plan.{Order, counted, total}
use Rattle.walk_rules.specs.Steps.{asked_from}
use Rattle.explosion.specs.Sums.{demand_row, bill_row, receipt_row, demands_in, bills_in, receipts_in, asked_of, gross_by, sched_by, order_adds, bill_adds, row_adds, bill_count, list_at, AreReleases, receipt_adds}

pub append_none : {A : Type 0} (xs : List A) → xs ++ [] ≡ xs
append_none [] = refl
append_none (x ∷ xs) = ap (λ ys. x ∷ ys) (append_none xs)

plus_none : (a : ℕ) → a ≡ a + 0
plus_none a = omega arith

pub at_list : (xs : List (List ℕ)) (i : ℕ) (x d : List ℕ) → i < length xs → x ≡ get_or xs i d → x ≡ list_at xs i
at_list [] i x d l is = absurd (omega arith)
at_list (y ∷ ys) zero x d l is = is
at_list (y ∷ ys) (suc i) x d l is = let short : i < length ys = omega arith in at_list ys i x d short is

total_more : (ps : List (Name × ℕ)) (p : Name × ℕ) → total (ps ++ p ∷ []) ≡ total ps + p.1
total_more ps p = sum_by-append (λ (q : Name × ℕ). q.1) ps (p ∷ []) ∙ one
  where
    one : total ps + total (p ∷ []) ≡ total ps + p.1
    one = omega arith

pub counted_more : (start t : ℕ) (os : List Order) (o : Order) → total (counted start t (os ++ o ∷ [])) ≡ total (counted start t os) + order_adds start o.date o.qty t
counted_more start t os o =
    ap total (filter_map-append (λ (x : Order). cond (counts_on start x.date t) (Some (x.name, x.qty)) None) os (o ∷ [])) ∙ by_cases (counts_on start o.date t)
  where
    by_cases : (b : Bool) → total (counted start t os ++ filter_map (λ (x : Order). cond b (Some (x.name, x.qty)) None) (o ∷ [])) ≡ total (counted start t os) + cond b o.qty 0
    by_cases true = total_more (counted start t os) (o.name, o.qty)
    by_cases false = ap total (append_none (counted start t os)) ∙ plus_none (total (counted start t os))

pub asked_more : (start t : ℕ) (bs : List ParentBill) (b : ParentBill) (lists : List (List ℕ)) → length bs < length lists
    → total (asked_from start t (bs ++ b ∷ []) lists) ≡ total (asked_from start t bs lists) + bill_adds start b.span b.per (list_at lists (length bs)) t
asked_more start t bs b lists l = ap total (longer bs lists l) ∙ total_more (asked_from start t bs lists) (b.parent, bill_adds start b.span b.per (list_at lists (length bs)) t)
  where
    longer : (bs : List ParentBill) (lists : List (List ℕ)) → length bs < length lists
        → asked_from start t (bs ++ b ∷ []) lists ≡ asked_from start t bs lists ++ (b.parent, bill_adds start b.span b.per (list_at lists (length bs)) t) ∷ []
    longer [] [] l = absurd (omega arith)
    longer [] (list ∷ lists) l = refl
    longer (a ∷ bs) [] l = absurd (omega arith)
    longer (a ∷ bs) (list ∷ lists) l = let short : length bs < length lists = omega arith in ap (λ more. (a.parent, bill_adds start a.span a.per list t) ∷ more) (longer bs lists short)

-- one more row
pub row_more : (start t : ℕ) (lists : List (List ℕ)) (rows : List (Key × Record)) (row : Key × Record) → length (bills_in rows) + bill_count row ≤ length lists
    → asked_of start t (demands_in (rows ++ row ∷ [])) (bills_in (rows ++ row ∷ [])) lists ≡ asked_of start t (demands_in rows) (bills_in rows) lists + row_adds start row (list_at lists (length (bills_in rows))) t
row_more start t lists rows row l =
    (λ i. asked_of start t (filter_map-append demand_row rows (row ∷ []) i) (filter_map-append bill_row rows (row ∷ []) i) lists) ∙ by_row row l
  where
    sums : (a b c d : ℕ) → c ≡ a + d → c + b ≡ (a + b) + d
    sums a b c d e = omega arith

    later : (a b c d : ℕ) → c ≡ b + d → a + c ≡ (a + b) + d
    later a b c d e = omega arith

    by_row : (row : Key × Record) → length (bills_in rows) + bill_count row ≤ length lists
        → asked_of start t (demands_in rows ++ demands_in (row ∷ [])) (bills_in rows ++ bills_in (row ∷ [])) lists ≡ asked_of start t (demands_in rows) (bills_in rows) lists + row_adds start row (list_at lists (length (bills_in rows))) t
    by_row (keys.Demand part order, records.Demand day qty) l =
        let one : Order = record { name = order; date = day; qty = qty } in
        ap (λ bs. asked_of start t (demands_in rows ++ one ∷ []) bs lists) (append_none (bills_in rows))
        ∙ sums (total (counted start t (demands_in rows))) (total (asked_from start t (bills_in rows) lists)) (total (counted start t (demands_in rows ++ one ∷ []))) (order_adds start day qty t) (counted_more start t (demands_in rows) one)
    by_row (keys.Bill parent component, records.Bill per span) l =
        let one : ParentBill = record { parent = parent; per = per; span = span } in
        let low : length (bills_in rows) < length lists = omega arith in
        ap (λ os. asked_of start t os (bills_in rows ++ one ∷ []) lists) (append_none (demands_in rows))
        ∙ later (total (counted start t (demands_in rows))) (total (asked_from start t (bills_in rows) lists)) (total (asked_from start t (bills_in rows ++ one ∷ []) lists)) (bill_adds start span per (list_at lists (length (bills_in rows))) t)
        (asked_more start t (bills_in rows) one lists low)
    by_row _ l = (λ i. asked_of start t (append_none (demands_in rows) i) (append_none (bills_in rows) i) lists) ∙ plus_none (asked_of start t (demands_in rows) (bills_in rows) lists)

pub length_more : {A : Type 0} (xs : List A) (x : A) → length (xs ++ x ∷ []) ≡ length xs + 1
length_more [] x = refl
length_more (y ∷ ys) x = let again = length_more ys x in omega arith

pub bills_more : (rows : List (Key × Record)) (row : Key × Record) → length (bills_in (rows ++ row ∷ [])) ≡ length (bills_in rows) + bill_count row
bills_more rows row = ap length (filter_map-append bill_row rows (row ∷ [])) ∙ by_row row
  where
    by_row : (row : Key × Record) → length (bills_in rows ++ bills_in (row ∷ [])) ≡ length (bills_in rows) + bill_count row
    by_row (keys.Bill parent component, records.Bill per span) = let one : ParentBill = record { parent = parent; per = per; span = span } in length_more (bills_in rows) one
    by_row _ = ap length (append_none (bills_in rows)) ∙ plus_none (length (bills_in rows))

-- two lists with the same numbers at each place are one
pub same_numbers : (xs ys : List ℕ) → length xs ≡ length ys → ((i : ℕ) → i < length xs → slice_index xs i ≡ slice_index ys i) → xs ≡ ys
same_numbers [] [] l h = refl
same_numbers [] (y ∷ ys) l h = absurd (omega arith)
same_numbers (x ∷ xs) [] l h = absurd (omega arith)
same_numbers (x ∷ xs) (y ∷ ys) l h =
    let first : x ≡ y = h 0 (omega arith) in
    let rest = same_numbers xs ys (omega arith) (λ i low. h (suc i) (omega arith)) in
    λ j. first j ∷ rest j

-- the sums so far are those of the rows so far
abbrev Rows : Type 0
Rows = List (Key × Record)

pub record Summed (start days : ℕ) (lists : List (List ℕ)) (rows : Rows) (next : ℕ) (sums : List ℕ) : Type 0 where
  pub long : length sums ≡ days
  pub next_is : next ≡ length (bills_in rows)
  pub each : (t : ℕ) → t < days → slice_index sums t ≡ asked_of start t (demands_in rows) (bills_in rows) lists

pub summed_more : (start days : ℕ) (lists : List (List ℕ)) (done : Rows) (next later : ℕ) (sums more : List ℕ) (row : Key × Record) → next + bill_count row ≤ length lists
    → Summed start days lists done next sums → length more ≡ length sums → later ≡ next + bill_count row
    → ((t : ℕ) → t < length sums → slice_index more t ≡ slice_index sums t + row_adds start row (list_at lists next) t) → Summed start days lists (done ++ row ∷ []) later more
summed_more start days lists done next later sums more row fits s same counted each = record {
  long = same ∙ s.long;
  next_is = counted ∙ ap (λ n. n + bill_count row) s.next_is ∙ sym (bills_more done row);
  each = λ t low.
      let here : t < length sums = subst (λ d. t < d) (sym s.long) low in
      let fits_too : length (bills_in done) + bill_count row ≤ length lists = subst (λ n. n + bill_count row ≤ length lists) s.next_is fits in
      each t here ∙ (λ j. s.each t low j + row_adds start row (list_at lists (s.next_is j)) t) ∙ sym (row_more start t lists done row fits_too);
}

-- at the end they are the gross requirements
all_summed : (start days : ℕ) (lists : List (List ℕ)) (rows : Rows) (next : ℕ) (sums : List ℕ) → Summed start days lists rows next sums → sums ≡ gross_by rows start days lists
all_summed start days lists rows next sums s =
    let f : ℕ → ℕ = λ t. asked_of start t (demands_in rows) (bills_in rows) lists in
    same_numbers sums (gross_by rows start days lists) (s.long ∙ sym (length-map-range_with_len f 0 days))
    (λ t low.
    let here : t < days = subst (λ d. t < d) s.long low in
    s.each t here ∙ sym (get_or-map-range_with_len f 0 days t t 0 here (omega arith)))

-- a row among others ----------------------------------------------------------------------------------------------------------

-- no more bills so far than in all
pub bills_fit : (done rest : Rows) (row : Key × Record) → length (bills_in done) + bill_count row ≤ length (bills_in (done ++ row ∷ rest))
bills_fit [] rest row = first row
  where
    first : (r : Key × Record) → 0 + bill_count r ≤ length (bills_in (r ∷ rest))
    first (keys.Bill parent component, records.Bill per span) = omega arith
    first _ = omega arith
bills_fit (r ∷ done) rest row = by_row r (bills_fit done rest row)
  where
    by_row : (r : Key × Record) → length (bills_in done) + bill_count row ≤ length (bills_in (done ++ row ∷ rest)) → length (bills_in (r ∷ done)) + bill_count row ≤ length (bills_in (r ∷ (done ++ row ∷ rest)))
    by_row (keys.Bill parent component, records.Bill per span) l = omega arith
    by_row _ l = l

sound_row : (done rest : Rows) (row : Key × Record) → are_sound_rows (done ++ row ∷ rest) ≡ true → is_sound_row row.0 row.1 ≡ true
sound_row [] rest row all = (and_parts (is_sound_row row.0 row.1) (are_sound_rows rest) all).0
sound_row (r ∷ done) rest row all = sound_row done rest row (and_parts (is_sound_row r.0 r.1) (are_sound_rows (done ++ row ∷ rest)) all).1

shorter : {A : Type 0} (done rest : List A) → length done ≤ length (done ++ rest)
shorter [] rest = omega arith
shorter (x ∷ done) rest = let again = shorter done rest in omega arith

small_list : (days : ℕ) (lists : List (List ℕ)) → AreReleases days lists → (k t : ℕ) → slice_index (list_at lists k) t ≤ limit
small_list days lists all k t = elim (cases_lt k (length lists)) [
  | inl less ↦ (all k less).1 t
  | inr more ↦ subst (λ list. slice_index list t ≤ limit) (sym (none_at lists k more)) (omega arith)
]
  where
    none_at : (lists : List (List ℕ)) (k : ℕ) → length lists ≤ k → list_at lists k ≡ []
    none_at [] k l = refl
    none_at (list ∷ lists) zero l = absurd (omega arith)
    none_at (list ∷ lists) (suc k) l = let short : length lists ≤ k = omega arith in none_at lists k short

product_small : (per qty : ℕ) → per ≤ 1_000_000 → qty ≤ limit → per * qty ≤ 1_000_000_000_000_000_000_000
product_small per qty a b = mul-le-mul a b

row_small : (start t : ℕ) (row : Key × Record) (list : List ℕ) → is_sound_row row.0 row.1 ≡ true → slice_index list t ≤ limit → row_adds start row list t ≤ 2_000_000_000_000_000_000_000
row_small start t (keys.Demand part order, records.Demand day qty) list sound small =
    by_day (counts_on start day t) (and_parts (is_sound_key (keys.Demand part order) && record_has_names (records.Demand day qty)) (is_within (keys.Demand part order) (records.Demand day qty)) sound).1
  where
    by_day : (b : Bool) → nat_le qty 1_000_000_000 ≡ true → cond b qty 0 ≤ 2_000_000_000_000_000_000_000
    by_day true q = let most : qty ≤ 1_000_000_000 = grind (arith, nat_tests) in omega arith
    by_day false q = omega arith
row_small start t (keys.Bill parent component, records.Bill per span) list sound small =
    let within = and_parts (nat_le 1 per && nat_le per 1_000_000) (is_sound_span span) (and_parts (is_sound_key (keys.Bill parent component) && record_has_names (records.Bill per span)) (is_within (keys.Bill parent component) (records.Bill per span)) sound).1 in
    by_day (is_effective span (start + t)) (and_parts (nat_le 1 per) (nat_le per 1_000_000) within.0).1
  where
    by_day : (b : Bool) → nat_le per 1_000_000 ≡ true → cond b (per * slice_index list t) 0 ≤ 2_000_000_000_000_000_000_000
    by_day true p = let most : per ≤ 1_000_000 = grind (arith, nat_tests) in let bound = product_small per (slice_index list t) most small in omega arith
    by_day false p = omega arith
row_small start t _ list sound small = omega arith

pub beyond : (xs : List ℕ) (t : ℕ) → length xs ≤ t → slice_index xs t ≡ 0
beyond [] t l = refl
beyond (x ∷ xs) zero l = absurd (omega arith)
beyond (x ∷ xs) (suc t) l = let short : length xs ≤ t = omega arith in beyond xs t short

-- the sums stay small
pub room_more : (start days i next : ℕ) (lists : List (List ℕ)) (sums more : List ℕ) (row : Key × Record) → is_sound_row row.0 row.1 ≡ true → AreReleases days lists → length more ≡ length sums
    → ((t : ℕ) → slice_index sums t ≤ i * 2_000_000_000_000_000_000_000) → ((t : ℕ) → t < length sums → slice_index more t ≡ slice_index sums t + row_adds start row (list_at lists next) t)
    → (t : ℕ) → slice_index more t ≤ (i + 1) * 2_000_000_000_000_000_000_000
room_more start days i next lists sums more row sound all same room each t =
    elim (cases_lt t (length sums)) [
      | inl less ↦ let small = row_small start t row (list_at lists next) sound (small_list days lists all next t) in let before = room t in let now = each t less in omega arith
      | inr far ↦ let none = beyond more t (subst (λ n. n ≤ t) (sym same) far) in omega arith
    ]

-- scheduled receipts -----------------------------------------------------------------------------------------------------------

receipts_more : (start t : ℕ) (rows : List (Key × Record)) (row : Key × Record) → total (counted start t (receipts_in (rows ++ row ∷ []))) ≡ total (counted start t (receipts_in rows)) + receipt_adds start row t
receipts_more start t rows row = ap (λ os. total (counted start t os)) (filter_map-append receipt_row rows (row ∷ [])) ∙ by_row row
  where
    by_row : (row : Key × Record) → total (counted start t (receipts_in rows ++ receipts_in (row ∷ []))) ≡ total (counted start t (receipts_in rows)) + receipt_adds start row t
    by_row (keys.Receipt part order, records.Receipt day qty) = counted_more start t (receipts_in rows) (record { name = order; date = day; qty = qty })
    by_row _ = ap (λ os. total (counted start t os)) (append_none (receipts_in rows)) ∙ plus_none (total (counted start t (receipts_in rows)))

pub record Received (start days : ℕ) (rows : List (Key × Record)) (sums : List ℕ) : Type 0 where
  pub long : length sums ≡ days
  pub each : (t : ℕ) → t < days → slice_index sums t ≡ total (counted start t (receipts_in rows))

received_more : (start days : ℕ) (done : Rows) (sums more : List ℕ) (row : Key × Record) → Received start days done sums → length more ≡ length sums
    → ((t : ℕ) → t < length sums → slice_index more t ≡ slice_index sums t + receipt_adds start row t) → Received start days (done ++ row ∷ []) more
received_more start days done sums more row s same each = record {
  long = same ∙ s.long;
  each = λ t low. each t (subst (λ d. t < d) (sym s.long) low) ∙ ap (λ n. n + receipt_adds start row t) (s.each t low) ∙ sym (receipts_more start t done row);
}

all_received : (start days : ℕ) (rows : Rows) (sums : List ℕ) → Received start days rows sums → sums ≡ sched_by rows start days
all_received start days rows sums s =
    let f : ℕ → ℕ = λ t. total (counted start t (receipts_in rows)) in
    same_numbers sums (sched_by rows start days) (s.long ∙ sym (length-map-range_with_len f 0 days))
    (λ t low.
    let here : t < days = subst (λ d. t < d) s.long low in
    s.each t here ∙ sym (get_or-map-range_with_len f 0 days t t 0 here (omega arith)))

receipt_small : (start t : ℕ) (row : Key × Record) → is_sound_row row.0 row.1 ≡ true → receipt_adds start row t ≤ 1_000_000_000
receipt_small start t (keys.Receipt part order, records.Receipt day qty) sound =
    by_day (counts_on start day t) (and_parts (is_sound_key (keys.Receipt part order) && record_has_names (records.Receipt day qty)) (is_within (keys.Receipt part order) (records.Receipt day qty)) sound).1
  where
    by_day : (b : Bool) → nat_le qty 1_000_000_000 ≡ true → cond b qty 0 ≤ 1_000_000_000
    by_day true q = grind (arith, nat_tests)
    by_day false q = omega arith
receipt_small start t _ sound = omega arith

pub received_small : (start i : ℕ) (sums more : List ℕ) (row : Key × Record) → is_sound_row row.0 row.1 ≡ true → length more ≡ length sums → ((t : ℕ) → slice_index sums t ≤ i * 1_000_000_000)
    → ((t : ℕ) → t < length sums → slice_index more t ≡ slice_index sums t + receipt_adds start row t) → (t : ℕ) → slice_index more t ≤ (i + 1) * 1_000_000_000
received_small start i sums more row sound same room each t =
    elim (cases_lt t (length sums)) [
      | inl less ↦ let small = receipt_small start t row sound in let before = room t in let now = each t less in omega arith
      | inr far ↦ let none = beyond more t (subst (λ n. n ≤ t) (sym same) far) in omega arith
    ]

-- loops over the rows of a cell -------------------------------------------------------------------------------------------------

-- the rows up to those that are left are added
pub record AddedRows (start days : ℕ) (lists : List (List ℕ)) (cell rest : List (Key × Record)) (next : ℕ) (sums : List ℕ) : Type 0 where
  pub done : List (Key × Record)
  pub split : cell ≡ done ++ rest
  pub summed : Summed start days lists done next sums
  pub room : (t : ℕ) → slice_index sums t ≤ length done * 2_000_000_000_000_000_000_000

pub rows_begin : (start : ℕ) (lists : List (List ℕ)) (cell : List (Key × Record)) (sums : List ℕ) → ((t : ℕ) → slice_index sums t ≡ 0) → AddedRows start (length sums) lists cell cell 0 sums
rows_begin start lists cell sums nothing = record {
  done = [];
  split = refl;
  summed = record { long = refl; next_is = refl; each = λ t low. nothing t };
  room = λ t. let none = nothing t in omega arith;
}

module _ (start days : ℕ) (lists : List (List ℕ)) (cell rest : List (Key × Record)) (next : ℕ) (sums : List ℕ) (row : Key × Record) (sofar : AddedRows start days lists cell (row ∷ rest) next sums) where
  pub next_fits : length (bills_in cell) ≤ length lists → next + bill_count row ≤ length lists
  next_fits each =
      let fits = subst (λ (rows : List (Key × Record)). length (bills_in sofar.done) + bill_count row ≤ length (bills_in rows)) (sym sofar.split) (bills_fit sofar.done rest row) in
      let same = sofar.summed.next_is in
      omega arith

  pub row_sound : are_sound_rows cell ≡ true → is_sound_row row.0 row.1 ≡ true
  row_sound sound = sound_row sofar.done rest row (subst (λ (rows : List (Key × Record)). are_sound_rows rows ≡ true) sofar.split sound)

  pub room_left : length cell ≤ 200000 → (t : ℕ) → slice_index sums t < 2 ^ 100
  room_left most t =
      let so = sofar.room t in
      let few = subst (λ (rows : List (Key × Record)). length sofar.done ≤ length rows) (sym sofar.split) (shorter sofar.done (row ∷ rest)) in
      omega arith

  pub rows_more : length (bills_in cell) ≤ length lists → are_sound_rows cell ≡ true → AreReleases days lists → (later : ℕ) (more : List ℕ) → length more ≡ length sums → later ≡ next + bill_count row
      → ((t : ℕ) → t < length sums → slice_index more t ≡ slice_index sums t + row_adds start row (list_at lists next) t) → AddedRows start days lists cell rest later more
  rows_more bills sound all later more same counted each = record {
    done = sofar.done ++ row ∷ [];
    split = sofar.split ∙ sym (append_assoc sofar.done (row ∷ []) rest);
    summed = summed_more start days lists sofar.done next later sums more row (next_fits bills) sofar.summed same counted each;
    room = subst (λ n. (t : ℕ) → slice_index more t ≤ n * 2_000_000_000_000_000_000_000) (sym (length_more sofar.done row))
        (room_more start days (length sofar.done) next lists sums more row (row_sound sound) all same sofar.room each);
  }

pub rows_end : (start days : ℕ) (lists : List (List ℕ)) (cell : List (Key × Record)) (next : ℕ) (sums : List ℕ) → AddedRows start days lists cell [] next sums → sums ≡ gross_by cell start days lists
rows_end start days lists cell next sums s =
    let whole : s.done ≡ cell = sym (append_none s.done) ∙ sym s.split in
    all_summed start days lists cell next sums (subst (λ (rows : List (Key × Record)). Summed start days lists rows next sums) whole s.summed)

-- and the same of receipts
pub record AddedReceipts (start days : ℕ) (cell rest : List (Key × Record)) (sums : List ℕ) : Type 0 where
  pub done : List (Key × Record)
  pub split : cell ≡ done ++ rest
  pub received : Received start days done sums
  pub room : (t : ℕ) → slice_index sums t ≤ length done * 1_000_000_000

pub receipts_begin : (start : ℕ) (cell : List (Key × Record)) (sums : List ℕ) → ((t : ℕ) → slice_index sums t ≡ 0) → AddedReceipts start (length sums) cell cell sums
receipts_begin start cell sums nothing = record {
  done = [];
  split = refl;
  received = record { long = refl; each = λ t low. nothing t };
  room = λ t. let none = nothing t in omega arith;
}

module _ (start days : ℕ) (cell rest : List (Key × Record)) (sums : List ℕ) where
  pub receipts_small : length cell ≤ 200000 → AddedReceipts start days cell rest sums → (t : ℕ) → slice_index sums t ≤ 200_000_000_000_000
  receipts_small most s t =
      let so = s.room t in
      let few = subst (λ (rows : List (Key × Record)). length s.done ≤ length rows) (sym s.split) (shorter s.done rest) in
      omega arith

  pub receipts_next : (row : Key × Record) → are_sound_rows cell ≡ true → AddedReceipts start days cell (row ∷ rest) sums → (more : List ℕ) → length more ≡ length sums
      → ((t : ℕ) → t < length sums → slice_index more t ≡ slice_index sums t + receipt_adds start row t) → AddedReceipts start days cell rest more
  receipts_next row sound s more same each = record {
    done = s.done ++ row ∷ [];
    split = s.split ∙ sym (append_assoc s.done (row ∷ []) rest);
    received = received_more start days s.done sums more row s.received same each;
    room = subst (λ n. (t : ℕ) → slice_index more t ≤ n * 1_000_000_000) (sym (length_more s.done row))
        (received_small start (length s.done) sums more row (sound_row s.done rest row (subst (λ (rows : List (Key × Record)). are_sound_rows rows ≡ true) s.split sound)) same s.room each);
  }

pub receipts_end : (start days : ℕ) (cell : List (Key × Record)) (sums : List ℕ) → AddedReceipts start days cell [] sums → sums ≡ sched_by cell start days
receipts_end start days cell sums s =
    let whole : s.done ≡ cell = sym (append_none s.done) ∙ sym s.split in
    all_received start days cell sums (subst (λ (rows : List (Key × Record)). Received start days rows sums) whole s.received)

-- a bound of each number
pub all_small : (most : ℕ) (xs : List ℕ) → ((t : ℕ) → slice_index xs t ≤ most) → All (λ x. x ≤ most) xs
all_small most xs h = All-from_recursion (λ x. x ≤ most) xs (each xs h)
  where
    each : (xs : List ℕ) → ((t : ℕ) → slice_index xs t ≤ most) → AllByRecursion (λ x. x ≤ most) xs
    each [] h = tt
    each (x ∷ xs) h = (h 0, each xs (λ t. h (suc t)))
