-- What is planned of a part with least-cost lots is the best list for what the part falls short of.
use Rattle.std.proofs.Common.{inl, ◌≡◌, ℕ, zero, suc, ◌+◌, ◌<◌, ◌≤◌, List, [], ◌∷◌, length, refl, sym, ◌∙◌, ap, subst, arith, Bool, true, false, cond}
use Rattle.std.proofs.lemmas.List.Elements.{All-from_recursion}
use Rattle.std.specs.Prelude.{Option, Some, None, All}
use Rattle.std.specs.List.{AllByRecursion, list_all, range_with_len}
use Rattle.plan_schema.specs.declared.name.Name.{Name}
use Rattle.plan_schema.specs.declared.key.Lot.{Lot}
use Rattle.plan_schema.specs.declared.key.Lot.TheVariants as lots
use Rattle.plan_schema.specs.declared.change.CellName.TheVariants as names
use Rattle.plan_schema.specs.declared.key.Key.{Key}
use Rattle.plan_schema.specs.declared.key.Key.TheVariants as keys
use Rattle.plan_schema.specs.declared.key.Record.{Record}
use Rattle.plan_schema.specs.declared.key.Record.TheVariants as rows_of_table
use Rattle.plan_schema.specs.Key.{cell_of}
use Rattle.plan_schema.specs.Contents.{Contents, record_at, cell_rows}
use Rattle.planning_rules.specs.BestLots.{needs, best}
use Rattle.planning_rules.specs.Bills.{parents}
use Rattle.planning_rules.specs.Days.{start_of, days_of, horizon_of, works}
use Rattle.planning_rules.specs.Netting.{Input, Lists, planned_of, outcome_from, is_too_large}
use Rattle.planning_rules.specs.Plan.{Known, Planned, Large, has_outcome, gross_of, sched_of, has_calendar, stock_in, input_of, known_from, plan}
use Rattle.planning_rules.proofs.PlanLaws.{plan_is_step}
use Rattle.planning_rules.proofs.PlannedBest.{planned_is_best}
use Rattle.planning_rules.specs.Refused.{in_reach}
use Rattle.planning_rules.proofs.Membership.{contained_in}
use Rattle.query_rules.specs.Queries.{safety_in}
use Rattle.walk_rules.specs.Cells.{Cells, records, held}
use Rattle.walk_rules.proofs.Local.{record_here}
use Rattle.explosion.specs.Sums.{sched_by}
use Rattle.explosion.proofs.Own.{sched_own}
use Rattle.plan_jobs.specs.declared.job.Wanted.{Wanted}
use Rattle.plan_jobs.specs.Jobs.{IsJob}
use Rattle.plan_jobs.proofs.Gathering.{asked_reached}
use Rattle.walk_names.proofs.JobCells.{HeldCell, held_cell}
use Rattle.lot_optimal.specs.declared.rows.CostRow.{CostRow}
use Rattle.lot_optimal.specs.Costs.{rows_of}
use Rattle.lot_optimal.proofs.Filled.{length_needs}
use Rattle.session_rules.specs.Answers.{lists_of, costs_lines}
use Rattle.session_rules.specs.Costs.{lot_costs, part_costs, unplanned_shortages, lines_of_costs}
use Rattle.part_pegs.specs.Planned.{ArePlanned}
use Rattle.part_pegs.specs.Held.{rows_held}
use Rattle.part_pegs.proofs.OwnPegs.{map_long, plan_gross, rows_found}

-- the lists of a part that is planned -----------------------------------------------------------------------------------------------

-- what the lists are, for the record that the part has
record ListsOf (c : Contents) (n : Name) (record_of : Option Record) (o : Lists) : Type 0 where
  gross : o.gross ≡ gross_of (plan c) c n
  sched : o.sched ≡ sched_of c n
  best : (setup hold : ℕ) → part_costs record_of ≡ Some (setup, hold)
      → o.planned ≡ best setup hold (needs (unplanned_shortages (stock_in (record_at c (keys.Stock n))) (safety_in record_of) o))

rule_of : Option (ℕ × ℕ) → Lot
rule_of None = lots.Exact
rule_of (Some costs) = lots.Best costs.0 costs.1

best_rule : (lot : Lot) (setup hold : ℕ) → lot_costs lot ≡ Some (setup, hold) → lot ≡ lots.Best setup hold
unfolding rule_of
best_rule (lots.Best s h) setup hold is = ap rule_of is
best_rule _ setup hold is = absurd (let never : ⊥ = cc in never)

from_input : (c : Contents) (n : Name) (lead : ℕ) (lot : Lot) (safety : ℕ) (calendar : Option Name) (x : Input) (o : Lists)
    → x.stock ≡ stock_in (record_at c (keys.Stock n)) → x.safety ≡ safety → x.lot ≡ lot → x.gross ≡ gross_of (plan c) c n → x.sched ≡ sched_of c n
    → known_from (Some x) ≡ Some (Planned o) → ListsOf c n (Some (rows_of_table.Part lead lot safety calendar)) o
from_input c n lead lot safety calendar x o stock safe rule gross sched known =
    let is = by_size (is_too_large x (planned_of x)) known in
    record {
      gross = ap (λ (l : Lists). l.gross) (sym is) ∙ gross;
      sched = ap (λ (l : Lists). l.sched) (sym is) ∙ sched;
      best = λ setup hold costs.
          ap (λ (l : Lists). l.planned) (sym is)
          ∙ planned_is_best x setup hold (rule ∙ best_rule lot setup hold costs)
          ∙ ap (λ (l : Lists). best setup hold (needs (unplanned_shortages x.stock x.safety l))) is
          ∙ (λ i. best setup hold (needs (unplanned_shortages (stock i) (safe i) o)));
    }
  where
    by_size : (large : Bool) → Some (cond large Large (Planned (outcome_from x (planned_of x)))) ≡ Some (Planned o) → outcome_from x (planned_of x) ≡ o
    by_size true k = absurd (let never : ⊥ = cc in never)
    by_size false k = ap lists_of k

from_record : (c : Contents) (n : Name) (r : Option Record) (o : Lists) → known_from (input_of c n (gross_of (plan c) c n) r) ≡ Some (Planned o) → ListsOf c n r o
from_record c n (Some (rows_of_table.Part lead lot safety calendar)) o known = by_calendar (has_calendar c calendar) known
  where
    x : Input
    x = record { stock = stock_in (record_at c (keys.Stock n)); safety = safety; lot = lot; lead = lead; calendar = works c calendar; gross = gross_of (plan c) c n; sched = sched_of c n }

    by_calendar : (b : Bool) → known_from (cond b (Some x) None) ≡ Some (Planned o) → ListsOf c n (Some (rows_of_table.Part lead lot safety calendar)) o
    by_calendar true k = from_input c n lead lot safety calendar x o refl refl refl refl refl k
    by_calendar false k = absurd (let never : ⊥ = cc in never)
from_record c n _ o known = absurd (let never : ⊥ = cc in never)

planned_lists : (c : Contents) (n : Name) (o : Lists) → plan c n ≡ Some (Planned o) → ListsOf c n (record_at c (keys.Part n)) o
planned_lists c n o is = by_parents (list_all (λ p. has_outcome (plan c p)) (parents c n)) (sym (plan_is_step c n) ∙ is)
  where
    by_parents : (b : Bool) → cond b (known_from (input_of c n (gross_of (plan c) c n) (record_at c (keys.Part n)))) None ≡ Some (Planned o) → ListsOf c n (record_at c (keys.Part n)) o
    by_parents true k = from_record c n (record_at c (keys.Part n)) o k
    by_parents false k = absurd (let never : ⊥ = cc in never)

all_days : (a k : ℕ) → length (range_with_len a k) ≡ k
all_days a zero = refl
all_days a (suc k) = ap suc (all_days (a + 1) k)

module _ (c : Contents) (n : Name) (o : Lists) (is : plan c n ≡ Some (Planned o)) where
  pub gross_long : length o.gross ≡ days_of c
  gross_long = ap length (planned_lists c n o is).gross ∙ map_long _ (range_with_len 0 (days_of c)) ∙ all_days 0 (days_of c)

  pub gross_small : All (λ qty. qty ≤ 1_000_000_000_000_000) o.gross
  gross_small = subst (All (λ qty. qty ≤ 1_000_000_000_000_000)) (sym (planned_lists c n o is).gross) (All-from_recursion (λ qty. qty ≤ 1_000_000_000_000_000) (gross_of (plan c) c n) (plan_gross c n o is))

  pub sched_is : sched_of c n ≡ o.sched
  sched_is = sym (planned_lists c n o is).sched

  pub sched_long : length o.sched ≡ length o.gross
  sched_long = ap length (planned_lists c n o is).sched ∙ map_long _ (range_with_len 0 (days_of c)) ∙ all_days 0 (days_of c) ∙ sym gross_long

  pub orders_best : (setup hold : ℕ) → part_costs (record_at c (keys.Part n)) ≡ Some (setup, hold)
      → o.planned ≡ best setup hold (needs (unplanned_shortages (stock_in (record_at c (keys.Stock n))) (safety_in (record_at c (keys.Part n))) o))
  orders_best = (planned_lists c n o is).best

-- the rows of a plan of orders -------------------------------------------------------------------------------------------------------

-- each stands on a day of the horizon
rows_within : (setup hold day : ℕ) (wants orders : List ℕ) (most : ℕ) → day + length wants ≤ most → AllByRecursion (λ (row : CostRow). row.at < most) (rows_of setup hold day wants orders)
rows_within setup hold day [] orders most h = tt
rows_within setup hold day (zero ∷ wants) [] most h = tt
rows_within setup hold day (suc n ∷ wants) [] most h = tt
rows_within setup hold day (zero ∷ wants) (q ∷ orders) most h = rows_within setup hold (suc day) wants orders most (omega arith)
rows_within setup hold day (suc n ∷ wants) (q ∷ orders) most h = (omega arith, rows_within setup hold (suc day) wants orders most (omega arith))

pub rows_in_days : (setup hold : ℕ) (wants orders : List ℕ) (most : ℕ) → length wants ≡ most → All (λ (row : CostRow). row.at < most) (rows_of setup hold 0 wants orders)
rows_in_days setup hold wants orders most h = All-from_recursion (λ (row : CostRow). row.at < most) (rows_of setup hold 0 wants orders) (rows_within setup hold 0 wants orders most (omega arith))

-- a part that is planned, by its cell -------------------------------------------------------------------------------------------------

module _ (wanted : Wanted) (cells : Cells) (n : Name) (plans : Name → Option Known) (job : IsJob wanted cells) (planned : ArePlanned (records cells) (n ∷ []) plans)
    (rows : Contents) (there : rows_held cells (names.Part n) ≡ Some rows) where
  pub own_cell : HeldCell cells (names.Part n) rows
  own_cell = let found = rows_found (held cells (names.Part n)) rows there in held_cell wanted cells (names.Part n) found.0 rows job found.1

  own_row : (key : Key) → cell_rows (records cells) (cell_of key) ≡ rows → record_at rows key ≡ record_at (records cells) key
  own_row key is = ap (λ rs. record_at rs key) (sym is) ∙ record_here (records cells) key

  pub part_row : record_at rows (keys.Part n) ≡ record_at (records cells) (keys.Part n)
  part_row = own_row (keys.Part n) own_cell.rows_are

  pub stock_row : record_at rows (keys.Stock n) ≡ record_at (records cells) (keys.Stock n)
  stock_row = own_row (keys.Stock n) own_cell.rows_are

  module _ (o : Lists) (is : plans n ≡ Some (Planned o)) where
    pub plan_is : plan (records cells) n ≡ Some (Planned o)
    plan_is = sym (planned.right n (contained_in (in_reach (records cells) (n ∷ [])) n (asked_reached (records cells) (n ∷ []) n (inl refl)))) ∙ is

    pub sched_told : (start days : ℕ) → (start, days) ≡ horizon_of (record_at (records cells) keys.Plan) → sched_by rows start days ≡ o.sched
    sched_told start days horizon =
        (λ i. sched_by (sym own_cell.rows_are i) (horizon i).0 (horizon i).1) ∙ sched_own (records cells) n ∙ sched_is (records cells) n o plan_is

    module _ (rule : ℕ × ℕ) (stock safety : ℕ) (costs : part_costs (record_at rows (keys.Part n)) ≡ Some rule) (stocked : stock ≡ stock_in (record_at rows (keys.Stock n)))
        (safe : safety ≡ safety_in (record_at rows (keys.Part n))) where
      pub orders_told : o.planned ≡ best rule.0 rule.1 (needs (unplanned_shortages stock safety o))
      orders_told =
          orders_best (records cells) n o plan_is rule.0 rule.1 (ap part_costs (sym part_row) ∙ costs)
          ∙ (λ i. best rule.0 rule.1 (needs (unplanned_shortages (sym (stocked ∙ ap stock_in stock_row) i) (sym (safe ∙ ap safety_in part_row) i) o)))

      pub lines_told : (start : ℕ) → start ≡ start_of (records cells) → lines_of_costs start (Some rule) (unplanned_shortages stock safety o) o.planned ≡ costs_lines (records cells) n
      lines_told start at =
          let stock_is = stocked ∙ ap stock_in stock_row in
          let safety_is = safe ∙ ap safety_in part_row in
          let rule_is = sym costs ∙ ap part_costs part_row in
          λ i. lines_of_costs (at i) (rule_is i) (unplanned_shortages (stock_is i) (safety_is i) (lists_of (sym plan_is i))) (lists_of (sym plan_is i)).planned

pub needs_in_days : (setup hold stock safety : ℕ) (o : Lists) (orders : List ℕ) (days : ℕ) → length o.gross ≡ days
    → (rows : List CostRow) → rows ≡ rows_of setup hold 0 (needs (unplanned_shortages stock safety o)) orders → All (λ (row : CostRow). row.at < days) rows
needs_in_days setup hold stock safety o orders days long rows is =
    let short = unplanned_shortages stock safety o in
    let all : length (needs short) ≡ days = length_needs 0 short ∙ map_long _ (range_with_len 0 (length o.gross)) ∙ all_days 0 (length o.gross) ∙ long in
    subst (All (λ (row : CostRow). row.at < days)) (sym is) (rows_in_days setup hold (needs short) orders days all)
