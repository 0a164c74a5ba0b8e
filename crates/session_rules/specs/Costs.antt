-- What the orders of a part with least-cost lots cost, and for each day with a need what no other orders can beat.
use Rattle.std.specs.Prelude.{ℕ, ◌+◌, List, [], ◌∷◌, map, Option, Some, None, codes, decimal}
use Rattle.plan_schema.specs.declared.name.Name.{Name}
use Rattle.plan_schema.specs.declared.key.Lot.{Lot}
use Rattle.plan_schema.specs.declared.key.Lot.TheVariants as lots
use Rattle.plan_schema.specs.declared.key.Record.{Record}
use Rattle.plan_schema.specs.declared.key.Record.TheVariants as records
use Rattle.plan_schema.specs.declared.refusal.Refusal.{Refusal}
use Rattle.plan_schema.specs.declared.refusal.Refusal.TheVariants as refusals
use Rattle.plan_schema.specs.Day.{day_text}
use Rattle.row_text.specs.Spelling.{words_text}
use Rattle.planning_rules.specs.BestLots.{needs, cost}
use Rattle.planning_rules.specs.Netting.{Lists, shortages_of}
use Rattle.lot_optimal.specs.declared.rows.CostRow.{CostRow}
use Rattle.lot_optimal.specs.Costs.{rows_of}

-- of a least-cost lot, what an order costs, and what it costs that a unit waits for a day
abbrev pub lot_costs : Lot → Option (ℕ × ℕ)
lot_costs (lots.Best setup hold) = Some (setup, hold)
lot_costs rule = None

-- those of a part, by its record
abbrev pub part_costs : Option Record → Option (ℕ × ℕ)
part_costs (Some (records.Part lead lot safety calendar)) = lot_costs lot
part_costs _ = None

-- a part without least-cost lots has no costs
abbrev pub no_costs : Name → Option (ℕ × ℕ) → Option Refusal
no_costs part None = Some (refusals.NoCosts part)
no_costs part (Some costs) = None

-- by how much a part falls short of safety on each day of the horizon, if nothing is planned
abbrev pub unplanned_shortages : ℕ → ℕ → Lists → List ℕ
unplanned_shortages stock safety lists =
    shortages_of (record { stock = stock; safety = safety; lot = lots.Exact; lead = 0; calendar = []; gross = lists.gross; sched = lists.sched })

-- the line of a day with a need: its date, the need, what is ordered on it, and the least cost of the needs from there on
abbrev pub cost_line : ℕ → CostRow → List ℕ
cost_line start row = words_text (day_text (start + row.at) ∷ decimal row.need ∷ decimal row.quantity ∷ decimal row.potential ∷ [])

abbrev pub total_line : ℕ → List ℕ
total_line cost = words_text (codes "cost" ∷ decimal cost ∷ [])

-- what some orders cost in all, and then a line for each day with a need
abbrev pub lines_of_costs : ℕ → Option (ℕ × ℕ) → List ℕ → List ℕ → List (List ℕ)
lines_of_costs start None short orders = []
lines_of_costs start (Some (setup, hold)) short orders =
    total_line (cost setup hold short orders) ∷ map (cost_line start) (rows_of setup hold 0 (needs short) orders)
