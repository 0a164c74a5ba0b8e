-- The plan of all names.
use Rattle.std.specs.Prelude.{ℕ, zero, suc, ◌+◌, ◌*◌, List, [], Bool, true, false, if◌then◌else◌, Option, Some, None, map, sum_by, slice_index, is_some}
use Rattle.std.specs.List.{range_with_len, list_all, filter_map}
use Rattle.plan_schema.specs.declared.name.Name.{Name}
pub use Rattle.plan_schema.specs.declared.outcome.Known.{Known}
pub use Rattle.plan_schema.specs.declared.outcome.Known.TheVariants.{Plan as Planned, TooLarge as Large}
use Rattle.plan_schema.specs.declared.key.Key.{Key}
use Rattle.plan_schema.specs.declared.key.Key.TheVariants as keys
use Rattle.plan_schema.specs.declared.key.Record.{Record}
use Rattle.plan_schema.specs.declared.key.Record.TheVariants as records
use Rattle.plan_schema.specs.Key.{name_eq}
use Rattle.plan_schema.specs.Contents.{Contents, record_at}
use Rattle.planning_rules.specs.Bills.{ParentBill, bills_of, parents, is_effective, longest_chain}
use Rattle.planning_rules.specs.Days.{start_of, days_of, counts_on, works}
use Rattle.planning_rules.specs.Netting.{Input, Lists, planned_of, outcome_from, is_too_large}

-- an order: its name, its date and its quantity
pub record Order : Type 0 where
  pub name : Name
  pub date : ℕ
  pub qty : ℕ

-- the demand that a row is, where it is one of n, and the scheduled receipt
abbrev pub demand_in : Name → (Key × Record) → Option Order
demand_in n (keys.Demand part order, records.Demand day qty) = if name_eq part n then Some (record { name = order; date = day; qty = qty }) else None
demand_in n _ = None

abbrev pub receipt_in : Name → (Key × Record) → Option Order
receipt_in n (keys.Receipt part order, records.Receipt day qty) = if name_eq part n then Some (record { name = order; date = day; qty = qty }) else None
receipt_in n _ = None

-- the independent demands of n, and its scheduled receipts, by order name
abbrev pub demands_of : Contents → Name → List Order
demands_of c n = filter_map (demand_in n) c

abbrev pub receipts_of : Contents → Name → List Order
receipts_of c n = filter_map (receipt_in n) c

-- the orders that count on day t, each with its quantity
abbrev pub counted : ℕ → ℕ → List Order → List (Name × ℕ)
counted start t orders = filter_map (λ order. if counts_on start order.date t then Some (order.name, order.qty) else None) orders

-- the sum of some quantities
abbrev pub total : List (Name × ℕ) → ℕ
total pairs = sum_by (λ pair. pair.1) pairs

abbrev pub demands_on : Contents → Name → ℕ → List (Name × ℕ)
demands_on c n t = counted (start_of c) t (demands_of c n)

-- scheduled receipts on day t
abbrev pub sched_on : Contents → Name → ℕ → ℕ
sched_on c n t = total (counted (start_of c) t (receipts_of c n))

-- the planned order releases of a name whose plan is known
abbrev pub released : Option Known → List ℕ
released (Some (Planned x)) = x.release
released _ = []

abbrev pub has_outcome : Option Known → Bool
has_outcome (Some (Planned x)) = true
has_outcome _ = false

-- explosion (Orlicky): what a parent asks of a component on day t is its release of that day times the quantity per, where the bill
-- is effective on that day
abbrev pub asked_by : (Name → Option Known) → ℕ → ℕ → ParentBill → Name × ℕ
asked_by plans start t bill = (bill.parent, if is_effective bill.span (start + t) then bill.per * slice_index (released (plans bill.parent)) t else 0)

-- dependent requirements on day t, by the parent's name, where the plans of the parents are known
abbrev pub asked_by_parents : (Name → Option Known) → Contents → Name → ℕ → List (Name × ℕ)
asked_by_parents plans c n t = map (asked_by plans (start_of c) t) (bills_of c n)

-- gross requirements on day t: the independent demands that count on it, and the dependent requirements
abbrev pub gross_on : (Name → Option Known) → Contents → Name → ℕ → ℕ
gross_on plans c n t = total (demands_on c n t) + total (asked_by_parents plans c n t)

abbrev pub gross_of : (Name → Option Known) → Contents → Name → List ℕ
gross_of plans c n = map (gross_on plans c n) (range_with_len 0 (days_of c))

abbrev pub sched_of : Contents → Name → List ℕ
sched_of c n = map (sched_on c n) (range_with_len 0 (days_of c))

-- what is on hand; 0 without a record
abbrev pub stock_in : Option Record → ℕ
stock_in (Some (records.Stock qty)) = qty
stock_in _ = 0

-- a part's calendar is there: it has none, or the calendar has a week
abbrev pub has_calendar : Contents → Option Name → Bool
has_calendar c None = true
has_calendar c (Some name) = is_some (record_at c (keys.Cal name))

-- what a part's step starts from, by its record; none for a name that is no part, or lacks its calendar
abbrev pub input_of : Contents → Name → List ℕ → Option Record → Option Input
input_of c n gross (Some (records.Part lead lot safety calendar)) =
    if has_calendar c calendar then Some (record {
      stock = stock_in (record_at c (keys.Stock n));
      safety = safety;
      lot = lot;
      lead = lead;
      calendar = works c calendar;
      gross = gross;
      sched = sched_of c n;
    }) else None
input_of c n gross _ = None

-- what comes of a step
abbrev pub known_from : Option Input → Option Known
known_from None = None
known_from (Some x) = let planned = planned_of x in Some (if is_too_large x planned then Large else Planned (outcome_from x planned))

-- one name's plan from those of its parents: nothing where a parent has no outcome, where the name is no part or lacks its calendar
abbrev pub plan_step : (Name → Option Known) → Contents → Name → Option Known
plan_step plans c n =
    if list_all (λ p. has_outcome (plans p)) (parents c n) then known_from (input_of c n (gross_of plans c n) (record_at c (keys.Part n))) else None

-- the plan of n, where the chains above it have so many names
abbrev pub plan_within : ℕ → Contents → Name → Option Known
plan_within zero c n = None
plan_within (suc names) c n = plan_step (plan_within names c) c n

-- the plan of n; a name on a cycle, or below one, has none
abbrev pub plan : Contents → Name → Option Known
plan c n = plan_within (longest_chain c) c n

-- the lists of a planned part
abbrev pub lists_of : Option Known → Lists
lists_of (Some (Planned lists)) = lists
lists_of _ = record { gross = []; sched = []; planned = []; balance = []; release = []; late = 0 }
