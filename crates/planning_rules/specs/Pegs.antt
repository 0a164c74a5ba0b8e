-- Single-level pegging: where the gross requirements of a day come from.
use Rattle.std.specs.Prelude.{ℕ, ◌+◌, List, ◌++◌, ◌||◌, nat_lt, nat_le, Option, map, filter}
use Rattle.plan_schema.specs.declared.name.Name.{Name}
use Rattle.plan_schema.specs.declared.refusal.Refusal.{Refusal}
use Rattle.plan_schema.specs.declared.refusal.Refusal.TheVariants as refusals
use Rattle.plan_schema.specs.Contents.{Contents}
use Rattle.plan_schema.specs.Refusals.{where_so}
use Rattle.planning_rules.specs.Days.{start_of, days_of}
use Rattle.planning_rules.specs.Plan.{Known, plan, demands_on, asked_by_parents}

-- a source of gross requirements: an independent demand by its order, or a parent by its name, with its quantity
pub data Peg : Type 0 where
  FromDemand : Name → ℕ → Peg
  FromParent : Name → ℕ → Peg

abbrev pub peg_qty : Peg → ℕ
peg_qty (FromDemand order qty) = qty
peg_qty (FromParent parent qty) = qty

abbrev pub above_zero : List (Name × ℕ) → List (Name × ℕ)
above_zero pairs = filter (λ pair. nat_lt 0 pair.1) pairs

-- the pegs of a part on day t, where the plans of its parents are known: its demands that count on the day, by order name, then its
-- parents whose bills are effective on it, by name, each with a quantity above 0
abbrev pub pegs_from : (Name → Option Known) → Contents → Name → ℕ → List Peg
pegs_from plans c n t = map (λ pair. FromDemand pair.0 pair.1) (above_zero (demands_on c n t)) ++ map (λ pair. FromParent pair.0 pair.1) (above_zero (asked_by_parents plans c n t))

abbrev pub pegs : Contents → Name → ℕ → List Peg
pegs c n t = pegs_from (plan c) c n t

-- a day outside the horizon has no pegs
abbrev pub no_day : Contents → ℕ → Option Refusal
no_day c day = where_so (nat_lt day (start_of c) || nat_le (start_of c + days_of c) day) (refusals.NoDay day)
