-- A step from the cells of its part is that of the definitions.
use Rattle.std.proofs.Common.{◌≡◌, ℕ, ◌+◌, List, true, false, cond, refl, sym, ap, ◌∙◌, ◌&&◌}
use Rattle.std.specs.Prelude.{Option, Some, None, is_none, slice_get, unwrap_or}
use Rattle.std.specs.List.{range_with_len}
use Rattle.plan_schema.specs.declared.name.Name.{Name}
use Rattle.plan_schema.specs.declared.change.CellName.TheVariants as names
use Rattle.plan_schema.specs.declared.key.Key.TheVariants as keys
use Rattle.plan_schema.specs.declared.key.Record.{Record}
use Rattle.plan_schema.specs.declared.key.Record.TheVariants as records
use Rattle.plan_schema.specs.Day.{weekday_of}
use Rattle.plan_schema.specs.Contents.{Contents, record_at, cell_rows}
use Rattle.planning_rules.specs.Days.{start_of, days_of, works, works_by}
use Rattle.planning_rules.specs.Plan.{has_calendar, stock_in, input_of, known_from}
use Rattle.planning_rules.proofs.PlanLaws.{map_same}
use Rattle.walk_rules.specs.Steps.{gross_from, calendar_of, calendar_in}
use Rattle.walk_rules.proofs.Local.{record_here}
use Rattle.explosion.proofs.Own.{gross_own, sched_own}
use Rattle.part_steps.specs.Steps.{input_with}
use Rattle.part_steps.specs.Laws.{StepFromCell, WorksFromCell}

by_record : (c : Contents) (n : Name) (lists : List (List ℕ)) (r : Option Record) → has_calendar c (calendar_of r) ≡ true
    → input_with (cell_rows c (names.Part n)) n (start_of c) (days_of c) (works c (calendar_of r)) lists r ≡ input_of c n (gross_from c n lists) r
by_record c n lists (Some (records.Part lead lot safety calendar)) h =
    λ i. cond (sym h i) (Some (record {
      stock = stock_in (record_here c (keys.Stock n) i);
      safety = safety;
      lot = lot;
      lead = lead;
      calendar = works c calendar;
      gross = gross_own c n lists i;
      sched = sched_own c n i;
    })) None
by_record c n lists _ h = refl

pub step_from_cell : StepFromCell
step_from_cell c n lists h =
    ap (λ r. known_from (input_with (cell_rows c (names.Part n)) n (start_of c) (days_of c) (works c (calendar_in c n)) lists r)) (record_here c (keys.Part n))
    ∙ ap known_from (by_record c n lists (record_at c (keys.Part n)) h)

pub works_from_cell : WorksFromCell
works_from_cell c k =
    map_same (λ t. works_by (cell_rows c (names.Cal k)) k (record_at (cell_rows c (names.Cal k)) (keys.Cal k)) (start_of c + t)) (λ t. works_by c k (record_at c (keys.Cal k)) (start_of c + t))
    (λ t. ap (λ r. works_by (cell_rows c (names.Cal k)) k r (start_of c + t)) (record_here c (keys.Cal k)) ∙ by_kind (record_at c (keys.Cal k)) (start_of c + t)) (range_with_len 0 (days_of c))
  where
    by_kind : (r : Option Record) (date : ℕ) → works_by (cell_rows c (names.Cal k)) k r date ≡ works_by c k r date
    by_kind (Some (records.Cal week)) date = ap (λ o. unwrap_or (slice_get week (weekday_of date)) false && is_none o) (record_here c (keys.Holiday k date))
    by_kind _ date = refl
