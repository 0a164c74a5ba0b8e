-- Sums over the rows of one part's cell.
use Rattle.std.specs.Prelude.{◌≡◌, ℕ, zero, suc, ◌+◌, ◌*◌, ◌<◌, ◌≤◌, List, [], ◌∷◌, if◌then◌else◌, Option, Some, None, map, slice_index, filter_map, length}
use Rattle.std.specs.List.{range_with_len}
use Rattle.plan_schema.specs.declared.key.Key.{Key}
use Rattle.plan_schema.specs.declared.key.Key.TheVariants as keys
use Rattle.plan_schema.specs.declared.key.Span.{Span}
use Rattle.plan_schema.specs.declared.key.Record.{Record}
use Rattle.plan_schema.specs.declared.key.Record.TheVariants as records
use Rattle.planning_rules.specs.Bills.{ParentBill, is_effective}
use Rattle.planning_rules.specs.Days.{counts_on}
use Rattle.planning_rules.specs.Plan.{Order, counted, total}
use Rattle.planning_rules.specs.Netting.{limit}
use Rattle.walk_rules.specs.Steps.{asked_from}

-- the demand, the scheduled receipt and the bill that a row is, whatever the part
abbrev pub demand_row : (Key × Record) → Option Order
demand_row (keys.Demand part order, records.Demand day qty) = Some (record { name = order; date = day; qty = qty })
demand_row _ = None

abbrev pub receipt_row : (Key × Record) → Option Order
receipt_row (keys.Receipt part order, records.Receipt day qty) = Some (record { name = order; date = day; qty = qty })
receipt_row _ = None

abbrev pub bill_row : (Key × Record) → Option ParentBill
bill_row (keys.Bill parent component, records.Bill per span) = Some (record { parent = parent; per = per; span = span })
bill_row _ = None

abbrev pub demands_in : List (Key × Record) → List Order
demands_in rows = filter_map demand_row rows

abbrev pub receipts_in : List (Key × Record) → List Order
receipts_in rows = filter_map receipt_row rows

abbrev pub bills_in : List (Key × Record) → List ParentBill
bills_in rows = filter_map bill_row rows

-- what is asked for on day t: by demands that count then, and by bills with the release lists of their parents
abbrev pub asked_of : ℕ → ℕ → List Order → List ParentBill → List (List ℕ) → ℕ
asked_of start t demands bills lists = total (counted start t demands) + total (asked_from start t bills lists)

-- gross requirements over a horizon, from the rows of a part's cell and the release lists of its parents
abbrev pub gross_by : List (Key × Record) → ℕ → ℕ → List (List ℕ) → List ℕ
gross_by rows start days lists = map (λ t. asked_of start t (demands_in rows) (bills_in rows) lists) (range_with_len 0 days)

-- scheduled receipts over a horizon
abbrev pub sched_by : List (Key × Record) → ℕ → ℕ → List ℕ
sched_by rows start days = map (λ t. total (counted start t (receipts_in rows))) (range_with_len 0 days)

-- what an order adds to day t
abbrev pub order_adds : ℕ → ℕ → ℕ → ℕ → ℕ
order_adds start date qty t = if counts_on start date t then qty else 0

-- what a bill adds to day t
abbrev pub bill_adds : ℕ → Option Span → ℕ → List ℕ → ℕ → ℕ
bill_adds start span per release t = if is_effective span (start + t) then per * slice_index release t else 0

-- what a row adds to day t, with the release list of its parent if it is a bill
abbrev pub row_adds : ℕ → (Key × Record) → List ℕ → ℕ → ℕ
row_adds start (keys.Demand part order, records.Demand day qty) release t = order_adds start day qty t
row_adds start (keys.Bill parent component, records.Bill per span) release t = bill_adds start span per release t
row_adds start _ release t = 0

abbrev pub bill_count : (Key × Record) → ℕ
bill_count (keys.Bill parent component, records.Bill per span) = 1
bill_count _ = 0

-- the release list at a place
abbrev pub list_at : List (List ℕ) → ℕ → List ℕ
list_at [] k = []
list_at (list ∷ lists) zero = list
list_at (list ∷ lists) (suc k) = list_at lists k

-- each list is one over so many days, with numbers up to the limit
abbrev pub AreReleases : ℕ → List (List ℕ) → Type 0
AreReleases days lists = (k : ℕ) → k < length lists
    → (length (list_at lists k) ≡ days) × ((t : ℕ) → slice_index (list_at lists k) t ≤ limit)

-- what a row adds to the scheduled receipts of day t
abbrev pub receipt_adds : ℕ → (Key × Record) → ℕ → ℕ
receipt_adds start (keys.Receipt part order, records.Receipt day qty) t = order_adds start day qty t
receipt_adds start _ t = 0
