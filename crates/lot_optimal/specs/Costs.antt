-- The proof that a plan of orders costs the least: a row for each day with a need, with a potential that no list of orders can beat.
use Rattle.std.specs.Prelude.{ℕ, zero, suc, ◌+◌, ◌-◌, ◌*◌, ◌≤◌, List, [], ◌∷◌, Bool, true, false, ◌&&◌, ◌||◌, ◌==◌, nat_le, nat_lt, if◌then◌else◌}
use Rattle.planning_rules.specs.BestLots.{IsCovered, needs, cost, least_cost}
use Rattle.lot_optimal.specs.declared.rows.CostRow.{CostRow}
use Rattle.lot_optimal.specs.declared.rows.Costs.{Costs}

-- the rows are the days with a need, in order, from a day on
abbrev pub are_rows : ℕ → List ℕ → List CostRow → Bool
are_rows day [] [] = true
are_rows day [] (row ∷ rows) = false
are_rows day (zero ∷ wants) rows = are_rows (suc day) wants rows
are_rows day (suc n ∷ wants) [] = false
are_rows day (suc n ∷ wants) (row ∷ rows) = ((row.at == day) && (row.need == suc n)) && are_rows (suc day) wants rows

-- what is needed before the next row with an order
abbrev pub before_order : List CostRow → ℕ
before_order [] = 0
before_order (row ∷ rows) = if row.quantity == 0 then row.need + before_order rows else 0

-- each quantity is 0 or the needs up to before the next quantity above 0
abbrev pub are_amounts : List CostRow → Bool
are_amounts [] = true
are_amounts (row ∷ rows) = (row.quantity == 0 || row.quantity == row.need + before_order rows) && are_amounts rows

-- the first quantity is above 0
abbrev pub begins : List CostRow → Bool
begins [] = true
begins (row ∷ rows) = nat_lt 0 row.quantity

-- the orders of the rows, day by day
abbrev pub spread : List ℕ → List CostRow → List ℕ
spread [] rows = []
spread (zero ∷ wants) rows = 0 ∷ spread wants rows
spread (suc n ∷ wants) [] = 0 ∷ spread wants []
spread (suc n ∷ wants) (row ∷ rows) = row.quantity ∷ spread wants rows

-- the first potential; 0 where there is no row
abbrev pub first_potential : List CostRow → ℕ
first_potential [] = 0
first_potential (row ∷ rows) = row.potential

-- a potential is at most what it costs to order on its day all that is needed before any later row, or before the end, and that row's
-- potential; `paid` is the setup and the waiting cost of the needs that have been passed
abbrev pub is_low : ℕ → ℕ → ℕ → ℕ → List CostRow → Bool
is_low hold at potential paid [] = nat_le potential paid
is_low hold at potential paid (row ∷ rows) =
    nat_le potential (paid + row.potential) && is_low hold at potential (paid + hold * (row.need * (row.at - at))) rows

abbrev pub are_low : ℕ → ℕ → List CostRow → Bool
are_low setup hold [] = true
are_low setup hold (row ∷ rows) = is_low hold row.at row.potential setup rows && are_low setup hold rows

-- the costs of what is short are proved
abbrev pub is_proof : ℕ → ℕ → List ℕ → Costs → Bool
is_proof setup hold short costs =
    are_rows 0 (needs short) costs.rows
    && (begins costs.rows
    && (are_amounts costs.rows
    && (costs.cost == cost setup hold short (spread (needs short) costs.rows)
    && (costs.cost == first_potential costs.rows && are_low setup hold costs.rows))))

-- no list of orders that is enough costs less
abbrev pub IsLeastCost : ℕ → ℕ → List ℕ → ℕ → Type 0
IsLeastCost setup hold short least = (orders : List ℕ) → IsCovered short orders → least ≤ cost setup hold short orders

-- what orders cost by their rows: a setup for each order, and for each other need the days since the last order
abbrev pub rows_cost : ℕ → ℕ → ℕ → List CostRow → ℕ
rows_cost setup hold last [] = 0
rows_cost setup hold last (row ∷ rows) =
    if row.quantity == 0 then hold * (row.need * (row.at - last)) + rows_cost setup hold last rows else setup + rows_cost setup hold row.at rows

-- the rows of a plan of orders, with the least costs as potentials
abbrev pub rows_of : ℕ → ℕ → ℕ → List ℕ → List ℕ → List CostRow
rows_of setup hold day [] orders = []
rows_of setup hold day (n ∷ wants) [] = []
rows_of setup hold day (zero ∷ wants) (q ∷ orders) = rows_of setup hold (suc day) wants orders
rows_of setup hold day (suc n ∷ wants) (q ∷ orders) =
    record { at = day; need = suc n; quantity = q; potential = least_cost setup hold (suc n ∷ wants) } ∷ rows_of setup hold (suc day) wants orders
