-- The sums of a part's own rows are those of the definitions of planning.
use Rattle.std.specs.Prelude.{◌≡◌, ℕ, List}
use Rattle.plan_schema.specs.declared.name.Name.{Name}
use Rattle.plan_schema.specs.declared.change.CellName.TheVariants as names
use Rattle.plan_schema.specs.Contents.{Contents, cell_rows}
use Rattle.planning_rules.specs.Days.{start_of, days_of}
use Rattle.planning_rules.specs.Plan.{sched_of}
use Rattle.walk_rules.specs.Steps.{gross_from}
use Rattle.explosion.specs.Sums.{gross_by, sched_by}

-- the gross requirements that the rows of a part's cell give, with the release lists of its parents, are those of its step
abbrev pub GrossIsFromCell : Type 0
GrossIsFromCell = (c : Contents) (n : Name) (lists : List (List ℕ))
    → gross_by (cell_rows c (names.Part n)) (start_of c) (days_of c) lists ≡ gross_from c n lists

-- and the scheduled receipts are the definition's
abbrev pub SchedIsFromCell : Type 0
SchedIsFromCell = (c : Contents) (n : Name) → sched_by (cell_rows c (names.Part n)) (start_of c) (days_of c) ≡ sched_of c n
