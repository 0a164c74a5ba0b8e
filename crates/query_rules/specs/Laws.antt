-- What holds of the meaning of queries.
use Rattle.std.specs.Prelude.{◌≡◌, ◌+◌, List, All, Option, Some, None, length, map}
use Rattle.plan_schema.specs.declared.name.Name.{Name}
use Rattle.plan_schema.specs.Contents.{Contents}
use Rattle.planning_rules.specs.Plan.{Known}
use Rattle.query_language.specs.declared.column.Column.{Column}
use Rattle.query_language.specs.Trees.{CondTree, Negation, QueryTree}
use Rattle.query_rules.specs.Queries.{parts_of, selected_from}

abbrev pub selects : List Column → Option CondTree → QueryTree
selects columns cond = record { columns = columns; cond = cond }

-- without a condition all parts are selected, by name
abbrev pub AllAreSelected : Type 0
AllAreSelected = (plans : Name → Option Known) (c : Contents) (columns : List Column) → map (λ row. row.0) (selected_from plans c (selects columns None)) ≡ parts_of c

-- each selected part has a value for each column
abbrev pub EachHasItsValues : Type 0
EachHasItsValues = (plans : Name → Option Known) (c : Contents) (query : QueryTree) → All (λ row. length row.1 ≡ length query.columns) (selected_from plans c query)

-- each part meets a condition or its negation, and none both
abbrev pub EitherOrNot : Type 0
EitherOrNot = (plans : Name → Option Known) (c : Contents) (columns : List Column) (cond : CondTree)
    → length (selected_from plans c (selects columns (Some cond))) + length (selected_from plans c (selects columns (Some (Negation cond)))) ≡ length (parts_of c)
