-- Rows, one more at a time.
use Rattle.std.proofs.Common.{◌≡◌, ◌≢◌, ℕ, zero, suc, ◌+◌, ◌-◌, ◌*◌, ◌<◌, ◌≤◌, List, [], ◌∷◌, drop, get_or, length, Bool, ◌&&◌, ◌||◌, ◌==◌, refl, ◌∙◌, ap, arith, true, false}
use Rattle.std.specs.Prelude.{sum_by, if◌then◌else◌}
use Rattle.std.proofs.lemmas.Bool.Decides.{nat_tests}
use Rattle.std.proofs.lemmas.List.{drop_more}
use Rattle.std.proofs.lemmas.List.Sums.{sum_by-cons, sum_by-take-drop, sum_by-drop_more}
use Rattle.lot_optimal.specs.declared.rows.CostRow.{CostRow}
use Rattle.lot_optimal.specs.Costs.{are_rows, before_order, are_amounts, rows_cost}

abbrev pub blank : CostRow
blank = record { at = 0; need = 0; quantity = 0; potential = 0 }

pub waits_step : (setup hold last k : ℕ) (rows : List CostRow) → k < length rows → (get_or rows k blank).quantity ≡ 0
    → rows_cost setup hold last (drop k rows) ≡ hold * ((get_or rows k blank).need * ((get_or rows k blank).at - last)) + rows_cost setup hold last (drop (k + 1) rows)
waits_step setup hold last k rows h e =
    let none : ((get_or rows k blank).quantity == 0) ≡ true = grind (arith, nat_tests) in
    ap (rows_cost setup hold last) (drop_more rows k blank h) ∙ rw none refl

pub orders_step : (setup hold last k : ℕ) (rows : List CostRow) → k < length rows → 0 < (get_or rows k blank).quantity
    → rows_cost setup hold last (drop k rows) ≡ setup + rows_cost setup hold (get_or rows k blank).at (drop (k + 1) rows)
orders_step setup hold last k rows h e =
    let some : ((get_or rows k blank).quantity == 0) ≡ false = grind (arith, nat_tests) in
    ap (rows_cost setup hold last) (drop_more rows k blank h) ∙ rw some refl

-- what is needed before an order is within the sum of the needs
before_bound : (rows : List CostRow) → before_order rows ≤ sum_by (λ row. row.need) rows
before_bound [] = omega arith
before_bound (row ∷ rows) =
    let rest = before_bound rows in
    let whole = sum_by-cons (λ (r : CostRow). r.need) row rows in
    elim (row.quantity == 0) as (λ b. (if b then row.need + before_order rows else 0) ≤ sum_by (λ r. r.need) (row ∷ rows)) [ true ↦ omega arith | false ↦ omega arith ]

pub before_more : (k : ℕ) (rows : List CostRow) → k < length rows → (get_or rows k blank).need + before_order (drop (k + 1) rows) ≤ sum_by (λ row. row.need) rows
before_more k rows h =
    let rest = before_bound (drop (k + 1) rows) in
    let here = sum_by-drop_more (λ (r : CostRow). r.need) rows k blank h in
    let all = sum_by-take-drop (λ (r : CostRow). r.need) rows k in
    omega arith

-- one wrong amount makes the list wrong
pub wrong_later : (k : ℕ) (rows : List CostRow) → are_amounts (drop k rows) ≡ false → are_amounts rows ≡ false
wrong_later zero rows h = h
wrong_later (suc k) [] h = h
wrong_later (suc k) (row ∷ rows) h = let rest : are_amounts rows ≡ false = wrong_later k rows h in rw rest (and_false (row.quantity == 0 || row.quantity == row.need + before_order rows))
  where
    and_false : (b : Bool) → (b && false) ≡ false
    and_false true = refl
    and_false false = refl

pub wrong_here : (k : ℕ) (rows : List CostRow) → k < length rows → 0 < (get_or rows k blank).quantity → (get_or rows k blank).quantity ≢ (get_or rows k blank).need + before_order (drop (k + 1) rows)
    → are_amounts rows ≡ false
wrong_here k rows h some other =
    wrong_later k rows (let one : ((get_or rows k blank).quantity == 0) ≡ false = grind (arith, nat_tests) in
    let two : ((get_or rows k blank).quantity == (get_or rows k blank).need + before_order (drop (k + 1) rows)) ≡ false = grind (arith, nat_tests) in
    ap are_amounts (drop_more rows k blank h) ∙ rw (one, two) refl)

-- no day is left
pub rows_end : (day : ℕ) (rows : List CostRow) (next : ℕ) → next ≤ length rows → are_rows day [] (drop next rows) ≡ (next == length rows)
rows_end day [] next h = let e : next ≡ 0 = omega arith in rw e refl
rows_end day (row ∷ rows) zero h = zero_other (length rows)
  where
    zero_other : (a : ℕ) → false ≡ (0 == suc a)
    zero_other a = grind (arith, nat_tests)
rows_end day (row ∷ rows) (suc next) h = rows_end day rows next (omega arith) ∙ suc_same next (length rows)
  where
    suc_same : (a b : ℕ) → (a == b) ≡ (suc a == suc b)
    suc_same a b = grind (arith, nat_tests)
