-- The rows of a query from the parts' own cells are those of the definition.
use Rattle.std.specs.Prelude.{◌≡◌, Option}
use Rattle.plan_schema.specs.declared.name.Name.{Name}
use Rattle.plan_schema.specs.declared.change.CellName.TheVariants as names
use Rattle.plan_schema.specs.Contents.{Contents, cell_rows}
use Rattle.planning_rules.specs.Plan.{Known}
use Rattle.query_language.specs.declared.column.Column.{Column}
use Rattle.query_language.specs.Trees.{CondTree}
use Rattle.query_rules.specs.Queries.{column_value, meets}
use Rattle.query_rows.specs.Rows.{value_by, meets_with}

-- a value from a part's own cell is the definition's
abbrev pub ValueIsFromCell : Type 0
ValueIsFromCell = (plans : Name → Option Known) (c : Contents) (n : Name) (column : Column)
    → value_by (cell_rows c (names.Part n)) (plans n) n column ≡ column_value plans c n column

-- and so a part meets a condition by these values where it does by the definition
abbrev pub MeetsFromCell : Type 0
MeetsFromCell = (plans : Name → Option Known) (c : Contents) (n : Name) (cond : CondTree)
    → meets_with (value_by (cell_rows c (names.Part n)) (plans n) n) n cond ≡ meets plans c n cond
