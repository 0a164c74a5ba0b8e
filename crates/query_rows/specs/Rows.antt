-- The row of one part of a query's answer, from the rows of the part's cell and what is known of its plan.
use Rattle.std.specs.Prelude.{ℕ, List, [], ◌∷◌, Bool, true, not, ◌&&◌, ◌||◌, if◌then◌else◌, Option, Some, None, map, flat_map, sum, sum_by}
use Rattle.std.specs.Option.{option_copied}
use Rattle.plan_schema.specs.declared.name.Name.{Name}
use Rattle.plan_schema.specs.declared.key.Key.{Key}
use Rattle.plan_schema.specs.declared.key.Key.TheVariants as keys
use Rattle.plan_schema.specs.declared.key.Record.{Record}
use Rattle.plan_schema.specs.declared.key.Record.TheVariants as records
use Rattle.plan_schema.specs.Contents.{Contents, record_at}
use Rattle.plan_schema.specs.Key.{name_eq}
use Rattle.planning_rules.specs.Netting.{Lists}
use Rattle.planning_rules.specs.Plan.{Known, lists_of, stock_in}
use Rattle.planning_rules.specs.Promise.{least_of}
use Rattle.query_language.specs.declared.column.Column.{Column}
use Rattle.query_language.specs.declared.column.Column.TheVariants as columns
use Rattle.query_language.specs.Trees.{CondTree, Compares, IsNamed, Negation, Both, Either, QueryTree}
use Rattle.query_rules.specs.Queries.{lead_in, safety_in, last_of, compares, parts_of}
use Rattle.walk_rules.specs.Cells.{Cells}
use Rattle.explosion.specs.Sums.{bill_count}
use Rattle.query_rows.specs.declared.part.Part.{Part}

-- the value of a column of a part's plan
abbrev pub lists_value : Lists → Column → ℕ
lists_value lists columns.Gross = sum lists.gross
lists_value lists columns.Planned = sum lists.planned
lists_value lists columns.Release = sum lists.release
lists_value lists columns.Late = lists.late
lists_value lists columns.Low = least_of lists.balance
lists_value lists columns.Last = last_of lists.balance
lists_value lists column = 0

-- the quantity of the demand, and of the scheduled receipt, that a row is
abbrev pub demand_qty : (Key × Record) → ℕ
demand_qty (keys.Demand part order, records.Demand day qty) = qty
demand_qty row = 0

abbrev pub receipt_qty : (Key × Record) → ℕ
receipt_qty (keys.Receipt part order, records.Receipt day qty) = qty
receipt_qty row = 0

-- what a row adds to a column that is a sum over the rows of a part's cell: an order its quantity, a bill one parent
abbrev pub row_adds : Column → (Key × Record) → ℕ
row_adds columns.Demand row = demand_qty row
row_adds columns.Receipt row = receipt_qty row
row_adds columns.Parents row = bill_count row
row_adds column row = 0

-- the value of a column for the part n, from the rows of its cell and what is known of its plan
abbrev pub value_by : Contents → Option Known → Name → Column → ℕ
value_by rows known n columns.Lead = lead_in (record_at rows (keys.Part n))
value_by rows known n columns.Safety = safety_in (record_at rows (keys.Part n))
value_by rows known n columns.Stock = stock_in (record_at rows (keys.Stock n))
value_by rows known n columns.Demand = sum_by demand_qty rows
value_by rows known n columns.Receipt = sum_by receipt_qty rows
value_by rows known n columns.Parents = sum_by bill_count rows
value_by rows known n column = lists_value (lists_of known) column

-- a part with these values of its columns meets a condition
abbrev pub meets_with : (Column → ℕ) → Name → CondTree → Bool
meets_with values n (Compares column op number) = compares op (values column) number
meets_with values n (IsNamed name equal) = if equal then name_eq n name else not (name_eq n name)
meets_with values n (Negation cond) = not (meets_with values n cond)
meets_with values n (Both cond other) = meets_with values n cond && meets_with values n other
meets_with values n (Either cond other) = meets_with values n cond || meets_with values n other

abbrev pub is_selected_with : (Column → ℕ) → Name → Option CondTree → Bool
is_selected_with values n None = true
is_selected_with values n (Some cond) = meets_with values n cond

-- the values of a part that is held
abbrev pub values_of : Part → Column → ℕ
values_of part = value_by part.cell.now (option_copied part.known) part.name.now

-- the row of a part with these values, if it is selected
abbrev pub row_with : (Column → ℕ) → Name → QueryTree → List (Name × List ℕ)
row_with values n query = if is_selected_with values n query.cond then (n, map values query.columns) ∷ [] else []

-- the rows of a cell: those of its parts that are selected
abbrev pub rows_in : (Name → Option Known) → QueryTree → Contents → List (Name × List ℕ)
rows_in plans query rows = flat_map (λ n. row_with (value_by rows (plans n) n) n query) (parts_of rows)

-- the rows of cells, in their order
abbrev pub rows_over : (Name → Option Known) → QueryTree → Cells → List (Name × List ℕ)
rows_over plans query cells = flat_map (λ cell. rows_in plans query cell.1) cells
