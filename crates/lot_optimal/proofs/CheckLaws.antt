-- What the rows of a proof imply.
use Rattle.std.proofs.Common.{◌≡◌, ℕ, zero, suc, ◌+◌, ◌-◌, ◌*◌, ◌≤◌, List, [], ◌∷◌, ◌&&◌, ◌==◌, refl, subst, arith, true}
use Rattle.std.specs.Prelude.{nat_le}
use Rattle.std.proofs.lemmas.Bool.{and_parts, eqb-true, leb-true}
use Rattle.planning_rules.specs.BestLots.{needs, cost, least_after, least_cost}
use Rattle.lot_optimal.specs.declared.rows.CostRow.{CostRow}
use Rattle.lot_optimal.specs.declared.rows.Costs.{Costs}
use Rattle.lot_optimal.specs.Costs.{are_rows, are_amounts, begins, spread, first_potential, is_low, are_low, is_proof, IsLeastCost}
use Rattle.planning_rules.proofs.LeastCost.{enough_costs}

-- the potentials of the rows are at most the least costs
abbrev pub AreBelow : ℕ → ℕ → List ℕ → List CostRow → Type 0
AreBelow setup hold [] rows = Unit {0}
AreBelow setup hold (zero ∷ wants) rows = AreBelow setup hold wants rows
AreBelow setup hold (suc n ∷ wants) [] = Unit {0}
AreBelow setup hold (suc n ∷ wants) (row ∷ rows) = (row.potential ≤ least_cost setup hold (suc n ∷ wants)) × AreBelow setup hold wants rows

-- a potential that is low is at most what the rest costs after an order on its day
low_is_below : (setup hold at since potential paid : ℕ) (wants : List ℕ) (rows : List CostRow) → are_rows (at + since) wants rows ≡ true → is_low hold at potential paid rows ≡ true
    → AreBelow setup hold wants rows → potential ≤ paid + least_after setup hold since wants
low_is_below setup hold at since potential paid [] [] fit low below = let le = leb-true potential paid low in omega arith
low_is_below setup hold at since potential paid [] (row ∷ rows) fit low below = absurd (cc)
low_is_below setup hold at since potential paid (zero ∷ wants) rows fit low below =
    let next : suc (at + since) ≡ at + suc since = omega arith in
    low_is_below setup hold at (suc since) potential paid wants rows (subst (λ day. are_rows day wants rows ≡ true) next fit) low below
low_is_below setup hold at since potential paid (suc n ∷ wants) [] fit low below = absurd (cc)
low_is_below setup hold at since potential paid (suc n ∷ wants) (row ∷ rows) fit low below =
    let parts = and_parts ((row.at == at + since) && (row.need == suc n)) (are_rows (suc (at + since)) wants rows) fit in
    let own = and_parts (row.at == at + since) (row.need == suc n) parts.0 in
    let at_is = eqb-true row.at (at + since) own.0 in
    let need_is = eqb-true row.need (suc n) own.1 in
    let lows = and_parts (nat_le potential (paid + row.potential)) (is_low hold at potential (paid + hold * (row.need * (row.at - at))) rows) low in
    let here = leb-true potential (paid + row.potential) lows.0 in
    let next : suc (at + since) ≡ at + suc since = omega arith in
    let rest = low_is_below setup hold at (suc since) potential (paid + hold * (row.need * (row.at - at))) wants rows (subst (λ day. are_rows day wants rows ≡ true) next parts.1) lows.1 below.1 in
    let apart : row.at - at ≡ since = omega arith in
    let waited : hold * (row.need * (row.at - at)) ≡ hold * (suc n * since) = rw (need_is, apart) refl in
    let under = below.0 in
    omega arith

pub rows_are_below : (setup hold day : ℕ) (wants : List ℕ) (rows : List CostRow) → are_rows day wants rows ≡ true → are_low setup hold rows ≡ true → AreBelow setup hold wants rows
rows_are_below setup hold day [] rows fit low = tt
rows_are_below setup hold day (zero ∷ wants) rows fit low = rows_are_below setup hold (suc day) wants rows fit low
rows_are_below setup hold day (suc n ∷ wants) [] fit low = tt
rows_are_below setup hold day (suc n ∷ wants) (row ∷ rows) fit low =
    let parts = and_parts ((row.at == day) && (row.need == suc n)) (are_rows (suc day) wants rows) fit in
    let own = and_parts (row.at == day) (row.need == suc n) parts.0 in
    let at_is = eqb-true row.at day own.0 in
    let lows = and_parts (is_low hold row.at row.potential setup rows) (are_low setup hold rows) low in
    let below = rows_are_below setup hold (suc day) wants rows parts.1 lows.1 in
    let next : suc day ≡ row.at + 1 = omega arith in
    let first = low_is_below setup hold row.at 1 row.potential setup wants rows (subst (λ d. are_rows d wants rows ≡ true) next parts.1) lows.0 below in
    (first, below)

first_below : (setup hold day : ℕ) (wants : List ℕ) (rows : List CostRow) → are_rows day wants rows ≡ true → AreBelow setup hold wants rows → first_potential rows ≤ least_cost setup hold wants
first_below setup hold day [] [] fit below = omega arith
first_below setup hold day [] (row ∷ rows) fit below = absurd (cc)
first_below setup hold day (zero ∷ wants) rows fit below = first_below setup hold (suc day) wants rows fit below
first_below setup hold day (suc n ∷ wants) [] fit below = absurd (cc)
first_below setup hold day (suc n ∷ wants) (row ∷ rows) fit below = below.0

-- where the rows are the days with a need, the potentials are low and the first is the cost, no list that is enough costs less
pub proved_is_least : (setup hold : ℕ) (short : List ℕ) (rows : List CostRow) (least : ℕ) → are_rows 0 (needs short) rows ≡ true → are_low setup hold rows ≡ true → (least == first_potential rows) ≡ true
    → IsLeastCost setup hold short least
proved_is_least setup hold short rows least fit low first orders h =
    let below = rows_are_below setup hold 0 (needs short) rows fit low in
    let at_most = first_below setup hold 0 (needs short) rows fit below in
    let is = eqb-true least (first_potential rows) first in
    let costs = enough_costs setup hold short orders h in
    omega arith

pub check_is_least : (setup hold : ℕ) (short : List ℕ) (costs : Costs) → is_proof setup hold short costs ≡ true → IsLeastCost setup hold short costs.cost
check_is_least setup hold short costs h =
    let one = and_parts (are_rows 0 (needs short) costs.rows) (begins costs.rows && (are_amounts costs.rows && (costs.cost == cost setup hold short (spread (needs short) costs.rows) && (costs.cost == first_potential costs.rows && are_low setup hold costs.rows)))) h in
    let two = and_parts (begins costs.rows) (are_amounts costs.rows && (costs.cost == cost setup hold short (spread (needs short) costs.rows) && (costs.cost == first_potential costs.rows && are_low setup hold costs.rows))) one.1 in
    let three = and_parts (are_amounts costs.rows) (costs.cost == cost setup hold short (spread (needs short) costs.rows) && (costs.cost == first_potential costs.rows && are_low setup hold costs.rows)) two.1 in
    let four = and_parts (costs.cost == cost setup hold short (spread (needs short) costs.rows)) (costs.cost == first_potential costs.rows && are_low setup hold costs.rows) three.1 in
    let five = and_parts (costs.cost == first_potential costs.rows) (are_low setup hold costs.rows) four.1 in
    proved_is_least setup hold short costs.rows costs.cost one.0 five.1 five.0
