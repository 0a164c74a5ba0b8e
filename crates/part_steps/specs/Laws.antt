-- A step from the cells of its part is that of the definitions.
use Rattle.std.specs.Prelude.{◌≡◌, ℕ, List, true, Some, None, replicate}
use Rattle.plan_schema.specs.declared.name.Name.{Name}
use Rattle.plan_schema.specs.declared.change.CellName.TheVariants as names
use Rattle.plan_schema.specs.Contents.{Contents, cell_rows}
use Rattle.planning_rules.specs.Days.{start_of, days_of, works}
use Rattle.planning_rules.specs.Plan.{has_calendar}
use Rattle.walk_rules.specs.Steps.{step_from, calendar_in}
use Rattle.part_steps.specs.Steps.{calendar_by, known_by}

-- where the part has its calendar, the step over the rows of its cell is the part's step
abbrev pub StepFromCell : Type 0
StepFromCell = (c : Contents) (n : Name) (lists : List (List ℕ)) → has_calendar c (calendar_in c n) ≡ true
    → known_by (cell_rows c (names.Part n)) n (start_of c) (days_of c) (works c (calendar_in c n)) lists ≡ step_from c n lists

-- the working days of a calendar are those of its cell
abbrev pub WorksFromCell : Type 0
WorksFromCell = (c : Contents) (k : Name) → calendar_by (cell_rows c (names.Cal k)) k (start_of c) (days_of c) ≡ works c (Some k)

-- and without a calendar every day works
abbrev pub NoCalendarWorks : Type 0
NoCalendarWorks = (c : Contents) → replicate (days_of c) true ≡ works c None
