-- The orders of rows, day by day.
use Rattle.std.proofs.Common.{◌≡◌, ℕ, zero, suc, ◌+◌, ◌-◌, ◌*◌, ◌<◌, ◌≤◌, List, [], ◌∷◌, length, ◌&&◌, ◌||◌, ◌==◌, refl, sym, ◌∙◌, ap, subst, arith, le_refl, true, false}
use Rattle.std.specs.Prelude.{sum_by, if◌then◌else◌}
use Rattle.std.specs.List.{sum}
use Rattle.std.proofs.lemmas.Bool.{and_parts, eqb-true}
use Rattle.std.proofs.lemmas.Bool.Decides.{nat_tests}
use Rattle.std.proofs.lemmas.List.Sums.{sum_by-cons}
use Rattle.planning_rules.specs.BestLots.{needs, needed, IsJust, cost}
use Rattle.lot_optimal.specs.declared.rows.CostRow.{CostRow}
use Rattle.lot_optimal.specs.Costs.{are_rows, before_order, are_amounts, begins, spread, rows_cost}
use Rattle.planning_rules.proofs.BestIsCheapest.{waiting_cost, cost_waits, cost_orders, cost_ends}
use Rattle.planning_rules.proofs.BestLotLaws.{simple_costs}

-- what the first of some rows is
pub record IsRow (day n : ℕ) (wants : List ℕ) (row : CostRow) (rows : List CostRow) : Type 0 where
  pub at : row.at ≡ day
  pub need : row.need ≡ n
  pub rest : are_rows (suc day) wants rows ≡ true

pub row_is : (day n : ℕ) (wants : List ℕ) (row : CostRow) (rows : List CostRow) → are_rows day (suc n ∷ wants) (row ∷ rows) ≡ true → IsRow day (suc n) wants row rows
row_is day n wants row rows fit =
    let parts = and_parts ((row.at == day) && (row.need == suc n)) (are_rows (suc day) wants rows) fit in
    let own = and_parts (row.at == day) (row.need == suc n) parts.0 in
    record { at = eqb-true row.at day own.0; need = eqb-true row.need (suc n) own.1; rest = parts.1 }

needed_cons : (n q : ℕ) (wants orders : List ℕ) → needed (n ∷ wants) (q ∷ orders) ≡ (if q == 0 then n + needed wants orders else 0)
needed_cons n zero wants orders = refl
needed_cons n (suc q) wants orders = let some : (suc q == 0) ≡ false = grind (arith, nat_tests) in rw some refl

pub spread_needed : (day : ℕ) (wants : List ℕ) (rows : List CostRow) → are_rows day wants rows ≡ true → needed wants (spread wants rows) ≡ before_order rows
spread_needed day [] [] fit = refl
spread_needed day [] (row ∷ rows) fit = absurd (cc)
spread_needed day (zero ∷ wants) rows fit = let rest = spread_needed (suc day) wants rows fit in omega arith
spread_needed day (suc n ∷ wants) [] fit = absurd (cc)
spread_needed day (suc n ∷ wants) (row ∷ rows) fit =
    let is = row_is day n wants row rows fit in
    needed_cons (suc n) row.quantity wants (spread wants rows)
    ∙ ap (λ k. if row.quantity == 0 then suc n + k else 0) (spread_needed (suc day) wants rows is.rest)
    ∙ ap (λ k. if row.quantity == 0 then k + before_order rows else 0) (sym is.need)

just_cons : (n q : ℕ) (wants orders : List ℕ) → 0 < n → (q == 0 || q == n + needed wants orders) ≡ true → IsJust wants orders → IsJust (n ∷ wants) (q ∷ orders)
just_cons n zero wants orders h e just = just
just_cons n (suc q) wants orders h e just =
    let some : (suc q == 0) ≡ false = grind (arith, nat_tests) in
    let same : (suc q == n + needed wants orders) ≡ true = rw some at e in
    (h, eqb-true (suc q) (n + needed wants orders) same, just)

pub spread_just : (day : ℕ) (wants : List ℕ) (rows : List CostRow) → are_rows day wants rows ≡ true → are_amounts rows ≡ true → IsJust wants (spread wants rows)
spread_just day [] rows fit right = tt
spread_just day (zero ∷ wants) rows fit right = spread_just (suc day) wants rows fit right
spread_just day (suc n ∷ wants) [] fit right = absurd (cc)
spread_just day (suc n ∷ wants) (row ∷ rows) fit right =
    let is = row_is day n wants row rows fit in
    let parts = and_parts (row.quantity == 0 || row.quantity == row.need + before_order rows) (are_amounts rows) right in
    let amount : (row.quantity == 0 || row.quantity == suc n + needed wants (spread wants rows)) ≡ true =
    ap (λ k. row.quantity == 0 || row.quantity == suc n + k) (spread_needed (suc day) wants rows is.rest) ∙ ap (λ k. row.quantity == 0 || row.quantity == k + before_order rows) (sym is.need) ∙ parts.0 in
    just_cons (suc n) row.quantity wants (spread wants rows) (omega arith) amount (spread_just (suc day) wants rows is.rest parts.1)

waiting_cons : (setup hold since n q : ℕ) (wants orders : List ℕ)
    → waiting_cost setup hold since (n ∷ wants) (q ∷ orders) ≡ (if q == 0 then hold * (n * since) + waiting_cost setup hold (suc since) wants orders else setup + waiting_cost setup hold 1 wants orders)
waiting_cons setup hold since n zero wants orders = cost_waits setup hold since n wants orders
waiting_cons setup hold since n (suc q) wants orders = let some : (suc q == 0) ≡ false = grind (arith, nat_tests) in rw some (cost_orders setup hold since n (suc q) wants orders (omega arith))

pub spread_waiting : (setup hold last since : ℕ) (wants : List ℕ) (rows : List CostRow) → are_rows (last + since) wants rows ≡ true → waiting_cost setup hold since wants (spread wants rows) ≡ rows_cost setup hold last rows
spread_waiting setup hold last since [] [] fit = cost_ends setup hold since []
spread_waiting setup hold last since [] (row ∷ rows) fit = absurd (cc)
spread_waiting setup hold last since (zero ∷ wants) rows fit =
    let next : suc (last + since) ≡ last + suc since = omega arith in
    let rest = spread_waiting setup hold last (suc since) wants rows (subst (λ day. are_rows day wants rows ≡ true) next fit) in
    let here = cost_waits setup hold since 0 wants (spread wants rows) in
    omega arith
spread_waiting setup hold last since (suc n ∷ wants) [] fit = absurd (cc)
spread_waiting setup hold last since (suc n ∷ wants) (row ∷ rows) fit =
    let is = row_is (last + since) n wants row rows fit in
    let at_is = is.at in
    let next : suc (last + since) ≡ last + suc since = omega arith in
    let anew : suc (last + since) ≡ row.at + 1 = omega arith in
    let apart : row.at - last ≡ since = omega arith in
    waiting_cons setup hold since (suc n) row.quantity wants (spread wants rows)
    ∙ ap (λ k. if row.quantity == 0 then hold * (suc n * since) + k else setup + waiting_cost setup hold 1 wants (spread wants rows))
    (spread_waiting setup hold last (suc since) wants rows (subst (λ day. are_rows day wants rows ≡ true) next is.rest))
    ∙ ap (λ k. if row.quantity == 0 then hold * (suc n * since) + rows_cost setup hold last rows else setup + k)
    (spread_waiting setup hold row.at 1 wants rows (subst (λ day. are_rows day wants rows ≡ true) anew is.rest))
    ∙ ap (λ k. if row.quantity == 0 then hold * (k * since) + rows_cost setup hold last rows else setup + rows_cost setup hold row.at rows) (sym is.need)
    ∙ ap (λ k. if row.quantity == 0 then hold * (row.need * k) + rows_cost setup hold last rows else setup + rows_cost setup hold row.at rows) (sym apart)

none_before : (rows : List CostRow) → begins rows ≡ true → before_order rows ≡ 0
none_before [] h = refl
none_before (row ∷ rows) h = let some : (row.quantity == 0) ≡ false = grind (arith, nat_tests) in rw some refl

pub spread_cost : (setup hold : ℕ) (short : List ℕ) (rows : List CostRow) → are_rows 0 (needs short) rows ≡ true → begins rows ≡ true → are_amounts rows ≡ true
    → cost setup hold short (spread (needs short) rows) ≡ rows_cost setup hold 0 rows
spread_cost setup hold short rows fit first right =
    simple_costs setup hold 0 short (spread (needs short) rows) (spread_needed 0 (needs short) rows fit ∙ none_before rows first, spread_just 0 (needs short) rows fit right)
    ∙ spread_waiting setup hold 0 0 (needs short) rows fit

-- the rows are no more than the days, and need what the days need
pub rows_sum : (day : ℕ) (wants : List ℕ) (rows : List CostRow) → are_rows day wants rows ≡ true → sum_by (λ (row : CostRow). row.need) rows ≡ sum wants
rows_sum day [] [] fit = refl
rows_sum day [] (row ∷ rows) fit = absurd (cc)
rows_sum day (zero ∷ wants) rows fit = let rest = rows_sum (suc day) wants rows fit in let whole = sum_by-cons (λ (n : ℕ). n) 0 wants in omega arith
rows_sum day (suc n ∷ wants) [] fit = absurd (cc)
rows_sum day (suc n ∷ wants) (row ∷ rows) fit =
    let is = row_is day n wants row rows fit in
    let rest = rows_sum (suc day) wants rows is.rest in
    let whole = sum_by-cons (λ (n : ℕ). n) (suc n) wants in
    let these = sum_by-cons (λ (r : CostRow). r.need) row rows in
    let need = is.need in
    omega arith

pub rows_few : (day : ℕ) (wants : List ℕ) (rows : List CostRow) → are_rows day wants rows ≡ true → length rows ≤ length wants
rows_few day [] [] fit = le_refl _
rows_few day [] (row ∷ rows) fit = absurd (cc)
rows_few day (zero ∷ wants) rows fit = let rest = rows_few (suc day) wants rows fit in omega arith
rows_few day (suc n ∷ wants) [] fit = absurd (cc)
rows_few day (suc n ∷ wants) (row ∷ rows) fit = let is = row_is day n wants row rows fit in let rest = rows_few (suc day) wants rows is.rest in omega arith
