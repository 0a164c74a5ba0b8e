-- A step looks at the cells of its part alone.
use Rattle.std.proofs.Common.{◌≡◌, ℕ, ◌+◌, ◌⊎◌, inl, inr, List, [], ◌∷◌, map, refl, sym, ◌∙◌, ap, Bool, true, false, cond, ◌&&◌}
use Rattle.std.specs.Prelude.{Option, Some, None, is_some, is_none, filter, slice_get, unwrap_or}
use Rattle.std.specs.List.{filter_map, cons_option, range_with_len, list_all}
use Rattle.std.specs.Map.{lookup}
use Rattle.std.specs.BTreeMap.{is_at}
use Rattle.std.specs.Ordering.{is_eq}
use Rattle.std.specs.declared.cmp.Ordering.{Ordering}
use Rattle.std.specs.declared.cmp.Ordering.TheVariants.{Less, Equal, Greater}
use Rattle.std.specs.Cmp.{tied_itself}
use Rattle.std.specs.Cmp.Lexicographic.{nat_list_cmp_total}
use Rattle.plan_schema.specs.declared.name.Name.{Name}
use Rattle.plan_schema.specs.declared.change.CellName.{CellName}
use Rattle.plan_schema.specs.declared.change.CellName.TheVariants as names
use Rattle.plan_schema.specs.declared.key.Key.{Key}
use Rattle.plan_schema.specs.declared.key.Key.TheVariants as keys
use Rattle.plan_schema.specs.declared.key.Record.{Record}
use Rattle.plan_schema.specs.declared.key.Record.TheVariants as rows
use Rattle.plan_schema.specs.Key.{name_eq, key_cmp, cell_of}
use Rattle.plan_schema.specs.Day.{weekday_of}
use Rattle.plan_schema.specs.Cell.{cell_eq}
use Rattle.plan_schema.specs.Contents.{Contents, record_at, cell_rows}
use Rattle.plan_schema.proofs.Orders.{exact_keys}
use Rattle.planning_rules.specs.Bills.{ParentBill, bill_in, bills_of, parents}
use Rattle.planning_rules.specs.Days.{start_of, days_of, horizon_of, works, works_by}
use Rattle.planning_rules.specs.Plan.{Known, Order, demand_in, receipt_in, demands_of, receipts_of, demands_on, counted, total, sched_on, sched_of, asked_by, gross_on, gross_of, released, has_outcome, stock_in, has_calendar, input_of, known_from}
use Rattle.planning_rules.proofs.PlanLaws.{map_same}
use Rattle.walk_rules.specs.Steps.{asked_from, gross_from, step_from, calendar_of, Agree, StepFromLists, StepIsLocal}

-- what a filter keeps is all that a function or a look-up sees ---------------------------------------------------------------

pub kept_map : {A B : Type 0} (f : A → Option B) (p : A → Bool) → ((x : A) → (f x ≡ None) ⊎ (p x ≡ true)) → (xs : List A) → filter_map f (filter p xs) ≡ filter_map f xs
kept_map f p h [] = refl
kept_map f p h (x ∷ xs) = by_cases (kept_map f p h xs) (p x) refl (h x)
  where
    by_cases : filter_map f (filter p xs) ≡ filter_map f xs → (b : Bool) → p x ≡ b → (f x ≡ None) ⊎ (p x ≡ true) → filter_map f (cond b (x ∷ filter p xs) (filter p xs)) ≡ cons_option (f x) (filter_map f xs)
    by_cases again true e o = ap (cons_option (f x)) again
    by_cases again false e (inl none) = again ∙ ap (λ o. cons_option o (filter_map f xs)) (sym none)
    by_cases again false e (inr so) = cc

pub kept_lookup : {K X : Type 0} (test : K → Bool) (p : (K × X) → Bool) → ((x : K × X) → test x.0 ≡ true → p x ≡ true) → (xs : List (K × X)) → lookup test (filter p xs) ≡ lookup test xs
kept_lookup test p h [] = refl
kept_lookup test p h (x ∷ xs) = by_cases (kept_lookup test p h xs) (p x) refl (test x.0) refl
  where
    by_cases : lookup test (filter p xs) ≡ lookup test xs → (b : Bool) → p x ≡ b → (t : Bool) → test x.0 ≡ t → lookup test (cond b (x ∷ filter p xs) (filter p xs)) ≡ cond t (Some x.1) (lookup test xs)
    by_cases again true e t is = λ i. cond (is i) (Some x.1) (again i)
    by_cases again false e true is = let so = h x is in cc
    by_cases again false e false is = again

-- rows of other cells say nothing of a part -----------------------------------------------------------------------------------

bill_here : (n : Name) (row : Key × Record) → (bill_in n row ≡ None) ⊎ (cell_eq (cell_of row.0) (names.Part n) ≡ true)
bill_here n (keys.Bill p m, rows.Bill per span) =
    let one : ParentBill = record { parent = p; per = per; span = span } in
    elim (name_eq m n) as (λ t. (cond t (Some one) None ≡ None) ⊎ (t ≡ true)) [ true ↦ inr refl | false ↦ inl refl ]
bill_here n _ = inl refl

demand_here : (n : Name) (row : Key × Record) → (demand_in n row ≡ None) ⊎ (cell_eq (cell_of row.0) (names.Part n) ≡ true)
demand_here n (keys.Demand m o, rows.Demand day qty) =
    let one : Order = record { name = o; date = day; qty = qty } in
    elim (name_eq m n) as (λ t. (cond t (Some one) None ≡ None) ⊎ (t ≡ true)) [ true ↦ inr refl | false ↦ inl refl ]
demand_here n _ = inl refl

receipt_here : (n : Name) (row : Key × Record) → (receipt_in n row ≡ None) ⊎ (cell_eq (cell_of row.0) (names.Part n) ≡ true)
receipt_here n (keys.Receipt m o, rows.Receipt day qty) =
    let one : Order = record { name = o; date = day; qty = qty } in
    elim (name_eq m n) as (λ t. (cond t (Some one) None ≡ None) ⊎ (t ≡ true)) [ true ↦ inr refl | false ↦ inl refl ]
receipt_here n _ = inl refl

pub same_cell : (name : CellName) → cell_eq name name ≡ true
same_cell names.Plan = refl
same_cell (names.Cal n) = ap is_eq (tied_itself nat_list_cmp_total n)
same_cell (names.Part n) = ap is_eq (tied_itself nat_list_cmp_total n)

equal_tells : (o : Ordering) → is_eq o ≡ true → o ≡ Equal
equal_tells Equal h = refl
equal_tells Less h = cc
equal_tells Greater h = cc

-- a record stands in its key's cell
pub record_here : (c : Contents) (key : Key) → record_at (cell_rows c (cell_of key)) key ≡ record_at c key
record_here c key = kept_lookup (is_at (key_cmp key)) (λ row. cell_eq (cell_of row.0) (cell_of key))
    (λ row h. ap (λ k. cell_eq (cell_of k) (cell_of key)) (sym (exact_keys key row.0 (equal_tells (key_cmp key row.0) h))) ∙ same_cell (cell_of key)) c

-- two contents with one cell alike --------------------------------------------------------------------------------------------

pub record_same : (c d : Contents) (key : Key) → cell_rows c (cell_of key) ≡ cell_rows d (cell_of key) → record_at c key ≡ record_at d key
record_same c d key h = sym (record_here c key) ∙ ap (λ rows. record_at rows key) h ∙ record_here d key

module _ (c d : Contents) (n : Name) (h : cell_rows c (names.Part n) ≡ cell_rows d (names.Part n)) where
  pub bills_same : bills_of c n ≡ bills_of d n
  bills_same = sym (kept_map (bill_in n) _ (bill_here n) c) ∙ ap (filter_map (bill_in n)) h ∙ kept_map (bill_in n) _ (bill_here n) d

  pub demands_same : demands_of c n ≡ demands_of d n
  demands_same = sym (kept_map (demand_in n) _ (demand_here n) c) ∙ ap (filter_map (demand_in n)) h ∙ kept_map (demand_in n) _ (demand_here n) d

  pub receipts_same : receipts_of c n ≡ receipts_of d n
  receipts_same = sym (kept_map (receipt_in n) _ (receipt_here n) c) ∙ ap (filter_map (receipt_in n)) h ∙ kept_map (receipt_in n) _ (receipt_here n) d

module _ (c d : Contents) (h : cell_rows c names.Plan ≡ cell_rows d names.Plan) where
  pub horizon_same : horizon_of (record_at c keys.Plan) ≡ horizon_of (record_at d keys.Plan)
  horizon_same = ap horizon_of (record_same c d keys.Plan h)

  pub start_same : start_of c ≡ start_of d
  start_same = ap (λ p. p.0) horizon_same

  pub days_same : days_of c ≡ days_of d
  days_same = ap (λ p. p.1) horizon_same

  works_same : (o : Option Name) → ((k : Name) → o ≡ Some k → cell_rows c (names.Cal k) ≡ cell_rows d (names.Cal k)) → works c o ≡ works d o
  works_same None cal = ap (λ t. map (λ u. true) (range_with_len 0 t)) days_same
  works_same (Some k) cal =
      let holiday : (date : ℕ) → record_at c (keys.Holiday k date) ≡ record_at d (keys.Holiday k date) = λ date. record_same c d (keys.Holiday k date) (cal k refl) in
      let week : record_at c (keys.Cal k) ≡ record_at d (keys.Cal k) = record_same c d (keys.Cal k) (cal k refl) in
      let by_week : (r : Option Record) (date : ℕ) → works_by c k r date ≡ works_by d k r date = by_record holiday in
      map_same (λ t. works_by c k (record_at c (keys.Cal k)) (start_of c + t)) (λ t. works_by d k (record_at d (keys.Cal k)) (start_of d + t))
      (λ t. by_week (record_at c (keys.Cal k)) (start_of c + t) ∙ (λ i. works_by d k (week i) (start_same i + t))) (range_with_len 0 (days_of c))
      ∙ ap (λ t. map (λ u. works_by d k (record_at d (keys.Cal k)) (start_of d + u)) (range_with_len 0 t)) days_same
    where
      by_record : ((date : ℕ) → record_at c (keys.Holiday k date) ≡ record_at d (keys.Holiday k date)) → (r : Option Record) (date : ℕ) → works_by c k r date ≡ works_by d k r date
      by_record holiday (Some (rows.Cal week)) date = ap (λ o. unwrap_or (slice_get week (weekday_of date)) false && is_none o) (holiday date)
      by_record holiday _ date = refl

  calendar_same : (o : Option Name) → ((k : Name) → o ≡ Some k → cell_rows c (names.Cal k) ≡ cell_rows d (names.Cal k)) → has_calendar c o ≡ has_calendar d o
  calendar_same None cal = refl
  calendar_same (Some k) cal = ap is_some (record_same c d (keys.Cal k) (cal k refl))

-- a step ----------------------------------------------------------------------------------------------------------------------

module _ (c d : Contents) (n : Name) (a : Agree c d n) where
  sched_same : sched_of c n ≡ sched_of d n
  sched_same =
      map_same (sched_on c n) (sched_on d n) (λ t i. total (counted (start_same c d a.plan_cell i) t (receipts_same c d n a.part_cell i))) (range_with_len 0 (days_of c))
      ∙ ap (λ t. map (sched_on d n) (range_with_len 0 t)) (days_same c d a.plan_cell)

  gross_same : (lists : List (List ℕ)) → gross_from c n lists ≡ gross_from d n lists
  gross_same lists =
      λ i. map (λ t. total (counted (start_same c d a.plan_cell i) t (demands_same c d n a.part_cell i)) + total (asked_from (start_same c d a.plan_cell i) t (bills_same c d n a.part_cell i) lists)) (range_with_len 0 (days_same c d a.plan_cell i))

  pub part_same : record_at c (keys.Part n) ≡ record_at d (keys.Part n)
  part_same = record_same c d (keys.Part n) a.part_cell

  input_same : (gross : List ℕ) (r : Option Record) → ((k : Name) → calendar_of r ≡ Some k → cell_rows c (names.Cal k) ≡ cell_rows d (names.Cal k)) → input_of c n gross r ≡ input_of d n gross r
  input_same gross (Some (rows.Part lead lot safety calendar)) cal =
      λ i. cond (calendar_same c d a.plan_cell calendar cal i) (Some (record {
        stock = stock_in (record_same c d (keys.Stock n) a.part_cell i);
        safety = safety;
        lot = lot;
        lead = lead;
        calendar = works_same c d a.plan_cell calendar cal i;
        gross = gross;
        sched = sched_same i;
      })) None
  input_same gross _ cal = refl

  pub step_same : (lists : List (List ℕ)) → step_from c n lists ≡ step_from d n lists
  step_same lists =
      ap known_from (input_same (gross_from c n lists) (record_at c (keys.Part n)) a.calendar_cell)
      ∙ λ i. known_from (input_of d n (gross_same lists i) (part_same i))

pub step_is_local : StepIsLocal
step_is_local c d n lists a = step_same c d n a lists

-- a step is one from the releases of the parents --------------------------------------------------------------------------------

pub asked_lists : (plans : Name → Option Known) (start t : ℕ) (bills : List ParentBill) → map (asked_by plans start t) bills ≡ asked_from start t bills (map (λ p. released (plans p)) (map (λ bill. bill.parent) bills))
asked_lists plans start t [] = refl
asked_lists plans start t (bill ∷ bills) = ap (λ more. asked_by plans start t bill ∷ more) (asked_lists plans start t bills)

pub gross_lists : (plans : Name → Option Known) (c : Contents) (n : Name) → gross_of plans c n ≡ gross_from c n (map (λ p. released (plans p)) (parents c n))
gross_lists plans c n =
    map_same (gross_on plans c n) (λ t. total (demands_on c n t) + total (asked_from (start_of c) t (bills_of c n) (map (λ p. released (plans p)) (parents c n))))
    (λ t. ap (λ pairs. total (demands_on c n t) + total pairs) (asked_lists plans (start_of c) t (bills_of c n))) (range_with_len 0 (days_of c))

pub step_from_its_lists : StepFromLists
step_from_its_lists plans c n = λ i. cond (list_all (λ p. has_outcome (plans p)) (parents c n)) (known_from (input_of c n (gross_lists plans c n i) (record_at c (keys.Part n)))) None
