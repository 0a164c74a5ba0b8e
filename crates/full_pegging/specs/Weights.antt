-- Units in a row, and what they weigh: the sum of a measure of units, such as 1 for a unit that ends at one demand, and 0 for others.
use Rattle.std.specs.Prelude.{◌≡◌, ℕ, suc, ◌+◌, ◌*◌, ◌/◌, ◌<◌, List, ◌∷◌, ◌++◌, Option, Some, sum, sum_by, take, slice_index}
use Rattle.std.specs.List.{range_with_len}
use Rattle.plan_schema.specs.declared.name.Name.{Name}
use Rattle.plan_schema.specs.declared.key.Key.TheVariants as keys
use Rattle.plan_schema.specs.Contents.{Contents, record_at}
use Rattle.planning_rules.specs.Days.{days_of}
use Rattle.planning_rules.specs.Netting.{Lists}
use Rattle.planning_rules.specs.Plan.{Known, Planned, gross_on, released, stock_in}
use Rattle.planning_rules.specs.Pegs.{Peg, FromParent, peg_qty, pegs_from}
use Rattle.planning_rules.specs.Trace.{End, end_at, per_in, peg_ends, demand_ends, day_ends}
use Rattle.full_pegging.specs.declared.units.Units.{Units}
use Rattle.full_pegging.specs.declared.units.ParentUnits.{ParentUnits}
use Rattle.full_pegging.specs.declared.overlay.Overlay.{Overlay}

-- what some units weigh, each as often as it is counted
abbrev pub weight : (ℕ → ℕ) → Units → ℕ
weight measure units = units.times * sum_by measure (range_with_len units.first units.many)

-- what the units of a parent weigh that some units of its component go into: `per` of these go into each, in their order
abbrev pub asked_weight : (ℕ → ℕ) → ℕ → ℕ → Units → ℕ
asked_weight measure per before units = weight (λ unit. measure (before + unit / per)) units

abbrev pub spread_weight : (ℕ → ℕ) → ParentUnits → ℕ
spread_weight measure units = weight measure units.begun + (weight measure units.filled + weight measure units.left)

abbrev pub overlay_weight : (ℕ → ℕ) → Overlay → ℕ
overlay_weight measure units = weight measure units.before + (weight measure units.shared + weight measure units.behind)

-- the planned units of day t as places in the supply of their part, each counted once: before them comes what is on hand, what is
-- scheduled up to the day, and what is planned before
abbrev pub day_units : ℕ → Lists → ℕ → Units
day_units stock x t = record { first = (stock + sum (take (suc t) x.sched)) + sum (take t x.planned); many = slice_index x.planned t; times = 1 }

-- the units of a day weigh what the units of the demand weigh that stand at their places
abbrev pub DayIsInARow : Type 0
DayIsInARow = (measure : End → ℕ) (ends : Name → List End) (plans : Name → Option Known) (c : Contents) (n : Name) (t : ℕ) (x : Lists) → plans n ≡ Some (Planned x)
    → sum_by measure (day_ends ends plans c n t) ≡ weight (λ place. measure (end_at n (demand_ends ends plans c n) place)) (day_units (stock_in (record_at c (keys.Stock n))) x t)

-- the units of a peg, each counted once
abbrev pub peg_units : ℕ → Units
peg_units qty = record { first = 0; many = qty; times = 1 }

-- those that a parent asks for weigh what the units of the parent weigh that they go into
abbrev pub PegIsInARow : Type 0
PegIsInARow = (measure : End → ℕ) (ends : Name → List End) (plans : Name → Option Known) (c : Contents) (n : Name) (t : ℕ) (parent : Name) (qty : ℕ)
    → sum_by measure (peg_ends ends plans c n t (FromParent parent qty))
    ≡ asked_weight (λ unit. measure (end_at parent (ends parent) unit)) (per_in (record_at c (keys.Bill parent n))) (sum (take t (released (plans parent)))) (peg_units qty)

-- the units of the demand stand peg by peg: before those of a peg of day t come the gross requirements of the days before, and what
-- the pegs before it on the day ask for
abbrev pub PegsStandInARow : Type 0
PegsStandInARow = (ends : Name → List End) (plans : Name → Option Known) (c : Contents) (n : Name) (t : ℕ) (before behind : List Peg) (peg : Peg) (unit : ℕ)
    → t < days_of c → pegs_from plans c n t ≡ before ++ peg ∷ behind → unit < peg_qty peg
    → end_at n (demand_ends ends plans c n) ((sum_by (gross_on plans c n) (range_with_len 0 t) + sum_by peg_qty before) + unit)
    ≡ end_at n (peg_ends ends plans c n t peg) unit
