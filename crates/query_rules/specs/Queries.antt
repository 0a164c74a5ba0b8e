-- The meaning of a query: of all parts, by name, those that meet its condition, each with the values of the columns.
use Rattle.std.specs.Prelude.{ℕ, ◌-◌, List, Bool, true, false, not, ◌&&◌, ◌||◌, ◌==◌, nat_le, nat_lt, if◌then◌else◌, Option, Some, None, length, map, filter, sum, sum_by, slice_index_or}
use Rattle.std.specs.List.{list_any, filter_map}
use Rattle.plan_schema.specs.declared.name.Name.{Name}
use Rattle.plan_schema.specs.declared.key.Key.{Key}
use Rattle.plan_schema.specs.declared.key.Key.TheVariants as keys
use Rattle.plan_schema.specs.declared.key.Record.{Record}
use Rattle.plan_schema.specs.declared.key.Record.TheVariants as records
use Rattle.plan_schema.specs.declared.refusal.Refusal.{Refusal}
use Rattle.plan_schema.specs.Key.{name_eq}
use Rattle.plan_schema.specs.Contents.{Contents, record_at}
use Rattle.planning_rules.specs.Bills.{parents}
use Rattle.planning_rules.specs.Plan.{Known, plan, lists_of, stock_in, demands_of, receipts_of}
use Rattle.planning_rules.specs.Promise.{least_of}
use Rattle.planning_rules.specs.Refused.{plan_refusal}
use Rattle.query_language.specs.declared.column.Column.{Column}
use Rattle.query_language.specs.declared.column.Column.TheVariants as columns
use Rattle.query_language.specs.declared.column.Op.{Op}
use Rattle.query_language.specs.declared.column.Op.TheVariants as ops
use Rattle.query_language.specs.Trees.{CondTree, Compares, IsNamed, Negation, Both, Either, QueryTree}

-- the lead time and the safety stock of a part's record
abbrev pub lead_in : Option Record → ℕ
lead_in (Some (records.Part lead lot safety calendar)) = lead
lead_in _ = 0

abbrev pub safety_in : Option Record → ℕ
safety_in (Some (records.Part lead lot safety calendar)) = safety
safety_in _ = 0

-- the last of some balances
abbrev pub last_of : List ℕ → ℕ
last_of balances = slice_index_or balances (length balances - 1) 0

-- the value of a column for the part n, where the plans are known. Demand and receipt are sums over all orders, whatever their dates;
-- gross requirements, planned receipts and releases are sums over the horizon
abbrev pub column_value : (Name → Option Known) → Contents → Name → Column → ℕ
column_value plans c n columns.Lead = lead_in (record_at c (keys.Part n))
column_value plans c n columns.Safety = safety_in (record_at c (keys.Part n))
column_value plans c n columns.Stock = stock_in (record_at c (keys.Stock n))
column_value plans c n columns.Demand = sum_by (λ order. order.qty) (demands_of c n)
column_value plans c n columns.Receipt = sum_by (λ order. order.qty) (receipts_of c n)
column_value plans c n columns.Parents = length (parents c n)
column_value plans c n columns.Gross = sum (lists_of (plans n)).gross
column_value plans c n columns.Planned = sum (lists_of (plans n)).planned
column_value plans c n columns.Release = sum (lists_of (plans n)).release
column_value plans c n columns.Late = (lists_of (plans n)).late
column_value plans c n columns.Low = least_of (lists_of (plans n)).balance
column_value plans c n columns.Last = last_of (lists_of (plans n)).balance

-- how a value compares with a number
abbrev pub compares : Op → ℕ → ℕ → Bool
compares ops.Eq value number = value == number
compares ops.Ne value number = not (value == number)
compares ops.Lt value number = nat_lt value number
compares ops.Le value number = nat_le value number
compares ops.Gt value number = nat_lt number value
compares ops.Ge value number = nat_le number value

-- the part n meets a condition
abbrev pub meets : (Name → Option Known) → Contents → Name → CondTree → Bool
meets plans c n (Compares column op number) = compares op (column_value plans c n column) number
meets plans c n (IsNamed name equal) = if equal then name_eq n name else not (name_eq n name)
meets plans c n (Negation cond) = not (meets plans c n cond)
meets plans c n (Both cond other) = meets plans c n cond && meets plans c n other
meets plans c n (Either cond other) = meets plans c n cond || meets plans c n other

-- without a condition each part is selected
abbrev pub is_selected : (Name → Option Known) → Contents → Option CondTree → Name → Bool
is_selected plans c None n = true
is_selected plans c (Some cond) n = meets plans c n cond

-- all parts, by name
abbrev pub part_in : (Key × Record) → Option Name
part_in (keys.Part name, value) = Some name
part_in _ = None

abbrev pub parts_of : Contents → List Name
parts_of c = filter_map part_in c

-- the selected parts, by name, each with the values of the columns in the order asked
abbrev pub selected_from : (Name → Option Known) → Contents → QueryTree → List (Name × List ℕ)
selected_from plans c query = map (λ n. (n, map (column_value plans c n) query.columns)) (filter (is_selected plans c query.cond) (parts_of c))

abbrev pub selected : Contents → QueryTree → List (Name × List ℕ)
selected c query = selected_from (plan c) c query

-- a column whose value comes of the plan
abbrev pub is_planned : Column → Bool
is_planned columns.Gross = true
is_planned columns.Planned = true
is_planned columns.Release = true
is_planned columns.Late = true
is_planned columns.Low = true
is_planned columns.Last = true
is_planned _ = false

abbrev pub cond_is_planned : CondTree → Bool
cond_is_planned (Compares column op number) = is_planned column
cond_is_planned (IsNamed name equal) = false
cond_is_planned (Negation cond) = cond_is_planned cond
cond_is_planned (Both cond other) = cond_is_planned cond || cond_is_planned other
cond_is_planned (Either cond other) = cond_is_planned cond || cond_is_planned other

abbrev pub any_cond_is_planned : Option CondTree → Bool
any_cond_is_planned None = false
any_cond_is_planned (Some cond) = cond_is_planned cond

-- a query asks for the plan where a column of it does, or one that its condition compares
abbrev pub asks_for_plan : QueryTree → Bool
asks_for_plan query = list_any is_planned query.columns || any_cond_is_planned query.cond

-- a query that asks for the plan is refused where the plan of all parts is; any other never is
abbrev pub query_refusal : Contents → QueryTree → Option Refusal
query_refusal c query = if asks_for_plan query then plan_refusal c (parts_of c) else None
