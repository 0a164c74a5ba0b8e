-- Netting day by day.
use Rattle.std.specs.Prelude.{◌≡◌, ℕ, ◌+◌, List, [], take, length}
use Rattle.std.specs.List.{sum}
use Rattle.plan_schema.specs.declared.key.Lot.{Lot}
use Rattle.plan_schema.specs.declared.key.Lot.TheVariants as lots
use Rattle.planning_rules.specs.BestLots.{needs, best}
use Rattle.planning_rules.specs.Netting.{Input, NettedTo, shortages_of}

-- the orders of the first t days, and the balance after them
pub record IsPlannedTo (x : Input) (t : ℕ) (p : List ℕ) (balance : ℕ) : Type 0 where
  pub orders : NettedTo x t p
  pub balanced : balance + sum (take t x.gross) ≡ (x.stock + sum (take t x.sched)) + sum p

-- of a part with least-cost lots, the orders are the best list for what is short over the whole horizon
abbrev pub AreBest : Input → List ℕ → Type 0
AreBest x orders = (setup hold : ℕ) → x.lot ≡ lots.Best setup hold → orders ≡ best setup hold (needs (shortages_of x))

-- of a part with least-cost lots, there is an order for each day
abbrev pub AreForDays : Input → List ℕ → Type 0
AreForDays x orders = (setup hold : ℕ) → x.lot ≡ lots.Best setup hold → length orders ≡ length x.gross

-- the input that begins at a day, with the balance before it as its stock
abbrev pub begun : Lot → ℕ → ℕ → List ℕ → List ℕ → Input
begun rule balance safety gross sched = record { stock = balance; safety = safety; lot = rule; lead = 0; calendar = []; gross = gross; sched = sched }
