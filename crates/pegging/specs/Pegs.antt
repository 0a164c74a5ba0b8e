-- The pegs of a day from the rows of a part's cell.
use Rattle.std.specs.Prelude.{ℕ, List, ◌++◌, map}
use Rattle.plan_schema.specs.declared.key.Key.{Key}
use Rattle.plan_schema.specs.declared.key.Record.{Record}
use Rattle.planning_rules.specs.Bills.{ParentBill}
use Rattle.planning_rules.specs.Plan.{Order, counted}
use Rattle.planning_rules.specs.Pegs.{Peg, FromDemand, FromParent, above_zero}
use Rattle.walk_rules.specs.Steps.{asked_from}
use Rattle.explosion.specs.Sums.{demands_in, bills_in}
use Rattle.pegging.specs.declared.source.Peg.{Peg as Held}
use Rattle.pegging.specs.declared.source.Peg.TheVariants as held

-- the peg of the definitions of planning that a peg in memory is
abbrev pub shown : Held → Peg
shown (held.Demand order qty) = FromDemand order qty
shown (held.Bill parent qty) = FromParent parent qty

-- the pegs of day t: of demands that count then, and of bills with the release lists of their parents
abbrev pub demand_pegs : ℕ → ℕ → List Order → List Peg
demand_pegs start t demands = map (λ pair. FromDemand pair.0 pair.1) (above_zero (counted start t demands))

abbrev pub bill_pegs : ℕ → ℕ → List ParentBill → List (List ℕ) → List Peg
bill_pegs start t bills lists = map (λ pair. FromParent pair.0 pair.1) (above_zero (asked_from start t bills lists))

-- the pegs of day t, from the rows of a part's cell and the release lists of its parents
abbrev pub pegs_by : List (Key × Record) → ℕ → ℕ → List (List ℕ) → List Peg
pegs_by rows start t lists = demand_pegs start t (demands_in rows) ++ bill_pegs start t (bills_in rows) lists
