-- The rows of a part's cell are those that name the part.
use Rattle.std.proofs.Common.{◌≡◌, List, [], ◌∷◌, map, refl, sym, ◌∙◌, ap, Bool, true, false, cond}
use Rattle.std.specs.Prelude.{Option, None, filter, filter_map, ◌+◌}
use Rattle.std.specs.List.{cons_option, range_with_len}
use Rattle.plan_schema.specs.declared.name.Name.{Name}
use Rattle.plan_schema.specs.declared.change.CellName.TheVariants as names
use Rattle.plan_schema.specs.declared.key.Key.{Key}
use Rattle.plan_schema.specs.declared.key.Key.TheVariants as keys
use Rattle.plan_schema.specs.declared.key.Record.{Record}
use Rattle.plan_schema.specs.declared.key.Record.TheVariants as records
use Rattle.plan_schema.specs.Key.{cell_of}
use Rattle.plan_schema.specs.Cell.{cell_eq}
use Rattle.plan_schema.specs.Contents.{Contents, cell_rows}
use Rattle.planning_rules.specs.Bills.{bill_in, bills_of}
use Rattle.planning_rules.specs.Days.{start_of, days_of}
use Rattle.planning_rules.specs.Plan.{demand_in, receipt_in, demands_of, receipts_of, counted, total}
use Rattle.walk_rules.specs.Steps.{asked_from}
use Rattle.explosion.specs.Sums.{demand_row, receipt_row, bill_row, demands_in, receipts_in, bills_in}
use Rattle.explosion.specs.Laws.{GrossIsFromCell, SchedIsFromCell}

-- a filter and a map that agree on what the filter keeps
own_map : {A B : Type 0} (f g : A → Option B) (p : A → Bool) → ((x : A) → f x ≡ cond (p x) (g x) None) → (xs : List A) → filter_map g (filter p xs) ≡ filter_map f xs
own_map f g p h [] = refl
own_map f g p h (x ∷ xs) = by_cases (p x) (own_map f g p h xs) (h x)
  where
    by_cases : (b : Bool) → filter_map g (filter p xs) ≡ filter_map f xs → f x ≡ cond b (g x) None → filter_map g (cond b (x ∷ filter p xs) (filter p xs)) ≡ cons_option (f x) (filter_map f xs)
    by_cases true again e = λ i. cons_option (sym e i) (again i)
    by_cases false again e = again ∙ ap (λ o. cons_option o (filter_map f xs)) (sym e)

pick : {A : Type 0} (b : Bool) (o : Option A) → o ≡ None → o ≡ cond b o None
pick true o e = refl
pick false o e = e

bill_own : (n : Name) (row : Key × Record) → bill_in n row ≡ cond (cell_eq (cell_of row.0) (names.Part n)) (bill_row row) None
bill_own n (keys.Bill p m, records.Bill per span) = refl
bill_own n row = pick (cell_eq (cell_of row.0) (names.Part n)) None refl

demand_own : (n : Name) (row : Key × Record) → demand_in n row ≡ cond (cell_eq (cell_of row.0) (names.Part n)) (demand_row row) None
demand_own n (keys.Demand m o, records.Demand day qty) = refl
demand_own n row = pick (cell_eq (cell_of row.0) (names.Part n)) None refl

receipt_own : (n : Name) (row : Key × Record) → receipt_in n row ≡ cond (cell_eq (cell_of row.0) (names.Part n)) (receipt_row row) None
receipt_own n (keys.Receipt m o, records.Receipt day qty) = refl
receipt_own n row = pick (cell_eq (cell_of row.0) (names.Part n)) None refl

pub bills_own : (c : Contents) (n : Name) → bills_in (cell_rows c (names.Part n)) ≡ bills_of c n
bills_own c n = own_map (bill_in n) bill_row _ (bill_own n) c

pub demands_own : (c : Contents) (n : Name) → demands_in (cell_rows c (names.Part n)) ≡ demands_of c n
demands_own c n = own_map (demand_in n) demand_row _ (demand_own n) c

pub receipts_own : (c : Contents) (n : Name) → receipts_in (cell_rows c (names.Part n)) ≡ receipts_of c n
receipts_own c n = own_map (receipt_in n) receipt_row _ (receipt_own n) c

pub gross_own : GrossIsFromCell
gross_own c n lists = λ i. map (λ t. total (counted (start_of c) t (demands_own c n i)) + total (asked_from (start_of c) t (bills_own c n i) lists)) (range_with_len 0 (days_of c))

pub sched_own : SchedIsFromCell
sched_own c n = λ i. map (λ t. total (counted (start_of c) t (receipts_own c n i))) (range_with_len 0 (days_of c))
