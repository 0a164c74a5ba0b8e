-- One part's step from the rows of its own cell, and a calendar from the rows of its.
use Rattle.std.specs.Prelude.{ℕ, ◌+◌, List, Bool, Option, Some, None, map}
use Rattle.std.specs.List.{range_with_len}
use Rattle.plan_schema.specs.declared.name.Name.{Name}
use Rattle.plan_schema.specs.declared.key.Key.TheVariants as keys
use Rattle.plan_schema.specs.declared.key.Record.{Record}
use Rattle.plan_schema.specs.declared.key.Record.TheVariants as records
use Rattle.plan_schema.specs.Contents.{Contents, record_at}
use Rattle.planning_rules.specs.Days.{works_by}
use Rattle.planning_rules.specs.Netting.{Input}
use Rattle.planning_rules.specs.Plan.{Known, stock_in, known_from}
use Rattle.explosion.specs.Sums.{gross_by, sched_by}

-- whether each day of a horizon works by a calendar, from the rows of its cell
abbrev pub calendar_by : Contents → Name → ℕ → ℕ → List Bool
calendar_by rows name start days = map (λ t. works_by rows name (record_at rows (keys.Cal name)) (start + t)) (range_with_len 0 days)

-- what a part's step starts from, where its record is there
abbrev pub input_with : Contents → Name → ℕ → ℕ → List Bool → List (List ℕ) → Option Record → Option Input
input_with rows n start days calendar lists (Some (records.Part lead lot safety named)) = Some (record {
  stock = stock_in (record_at rows (keys.Stock n));
  safety = safety;
  lot = lot;
  lead = lead;
  calendar = calendar;
  gross = gross_by rows start days lists;
  sched = sched_by rows start days;
})
input_with rows n start days calendar lists _ = None

abbrev pub input_by : Contents → Name → ℕ → ℕ → List Bool → List (List ℕ) → Option Input
input_by rows n start days calendar lists = input_with rows n start days calendar lists (record_at rows (keys.Part n))

-- what it comes to
abbrev pub known_by : Contents → Name → ℕ → ℕ → List Bool → List (List ℕ) → Option Known
known_by rows n start days calendar lists = known_from (input_by rows n start days calendar lists)
