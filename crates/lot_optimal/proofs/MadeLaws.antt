-- The rows that are made of the best list are a proof.
use Rattle.std.proofs.Common.{◌≡◌, ℕ, zero, suc, ◌+◌, ◌-◌, ◌*◌, ◌<◌, ◌≤◌, List, [], ◌∷◌, ◌++◌, length, drop, get_or, ◌==◌, refl, sym, ◌∙◌, ap, subst, arith, le_refl, true, false, add-one, append_assoc}
use Rattle.std.proofs.Math.Seq.{drop-cons}
use Rattle.std.proofs.lemmas.Bool.{eq-eqb, le-leb}
use Rattle.std.proofs.lemmas.Bool.Decides.{nat_tests}
use Rattle.planning_rules.specs.BestLots.{needs, needed, IsJust, IsSimple, cost, least_after, least_cost, best}
use Rattle.lot_optimal.specs.declared.rows.CostRow.{CostRow}
use Rattle.lot_optimal.specs.declared.rows.Costs.{Costs}
use Rattle.lot_optimal.specs.Costs.{are_rows, before_order, are_amounts, begins, spread, first_potential, is_low, are_low, is_proof, rows_of}
use Rattle.planning_rules.proofs.BestLotLaws.{best_is_simple, best_costs}

pub made_rows : (setup hold day : ℕ) (wants orders : List ℕ) → length orders ≡ length wants → are_rows day wants (rows_of setup hold day wants orders) ≡ true
made_rows setup hold day [] orders h = refl
made_rows setup hold day (n ∷ wants) [] h = absurd (omega arith)
made_rows setup hold day (zero ∷ wants) (q ∷ orders) h = made_rows setup hold (suc day) wants orders (omega arith)
made_rows setup hold day (suc n ∷ wants) (q ∷ orders) h =
    rw (eq-eqb day day refl, eq-eqb (suc n) (suc n) refl) (made_rows setup hold (suc day) wants orders (omega arith))

just_length : (wants orders : List ℕ) → IsJust wants orders → length orders ≡ length wants
just_length [] [] h = refl
just_length [] (q ∷ orders) h = absurd h
just_length (n ∷ wants) [] h = absurd h
just_length (n ∷ wants) (zero ∷ orders) h = ap suc (just_length wants orders h)
just_length (n ∷ wants) (suc q ∷ orders) h = ap suc (just_length wants orders h.2)

-- no orders stand on days without a need, so the rows have them all
made_before : (setup hold day : ℕ) (wants orders : List ℕ) → IsJust wants orders → before_order (rows_of setup hold day wants orders) ≡ needed wants orders
made_before setup hold day [] orders h = refl
made_before setup hold day (n ∷ wants) [] h = refl
made_before setup hold day (zero ∷ wants) (zero ∷ orders) h = let rest = made_before setup hold (suc day) wants orders h in omega arith
made_before setup hold day (zero ∷ wants) (suc q ∷ orders) h = let never : 0 < 0 = h.0 in absurd (omega arith)
made_before setup hold day (suc n ∷ wants) (zero ∷ orders) h = ap (λ k. suc n + k) (made_before setup hold (suc day) wants orders h)
made_before setup hold day (suc n ∷ wants) (suc q ∷ orders) h = let some : (suc q == 0) ≡ false = grind (arith, nat_tests) in rw some refl

made_amounts : (setup hold day : ℕ) (wants orders : List ℕ) → IsJust wants orders → are_amounts (rows_of setup hold day wants orders) ≡ true
made_amounts setup hold day [] orders h = refl
made_amounts setup hold day (n ∷ wants) [] h = refl
made_amounts setup hold day (zero ∷ wants) (zero ∷ orders) h = made_amounts setup hold (suc day) wants orders h
made_amounts setup hold day (zero ∷ wants) (suc q ∷ orders) h = let never : 0 < 0 = h.0 in absurd (omega arith)
made_amounts setup hold day (suc n ∷ wants) (zero ∷ orders) h = made_amounts setup hold (suc day) wants orders h
made_amounts setup hold day (suc n ∷ wants) (suc q ∷ orders) h =
    let some : (suc q == 0) ≡ false = grind (arith, nat_tests) in
    let before = made_before setup hold (suc day) wants orders h.2 in
    let same : (suc q == suc n + before_order (rows_of setup hold (suc day) wants orders)) ≡ true = eq-eqb (suc q) _ (h.1 ∙ ap (λ k. suc n + k) (sym before)) in
    rw (some, same) (made_amounts setup hold (suc day) wants orders h.2)

made_begins : (setup hold day : ℕ) (wants orders : List ℕ) → IsSimple wants orders → begins (rows_of setup hold day wants orders) ≡ true
made_begins setup hold day [] orders h = refl
made_begins setup hold day (n ∷ wants) [] h = refl
made_begins setup hold day (zero ∷ wants) (zero ∷ orders) h = let none : 0 + needed wants orders ≡ 0 = h.0 in made_begins setup hold (suc day) wants orders (omega arith, h.1)
made_begins setup hold day (zero ∷ wants) (suc q ∷ orders) h = let never : 0 < 0 = h.1.0 in absurd (omega arith)
made_begins setup hold day (suc n ∷ wants) (zero ∷ orders) h = let none : suc n + needed wants orders ≡ 0 = h.0 in absurd (omega arith)
made_begins setup hold day (suc n ∷ wants) (suc q ∷ orders) h = grind (arith, nat_tests)

made_spread : (setup hold day : ℕ) (wants orders : List ℕ) → IsJust wants orders → spread wants (rows_of setup hold day wants orders) ≡ orders
made_spread setup hold day [] [] h = refl
made_spread setup hold day [] (q ∷ orders) h = absurd h
made_spread setup hold day (n ∷ wants) [] h = absurd h
made_spread setup hold day (zero ∷ wants) (zero ∷ orders) h = ap (λ qs. 0 ∷ qs) (made_spread setup hold (suc day) wants orders h)
made_spread setup hold day (zero ∷ wants) (suc q ∷ orders) h = let never : 0 < 0 = h.0 in absurd (omega arith)
made_spread setup hold day (suc n ∷ wants) (zero ∷ orders) h = ap (λ qs. 0 ∷ qs) (made_spread setup hold (suc day) wants orders h)
made_spread setup hold day (suc n ∷ wants) (suc q ∷ orders) h = ap (λ qs. suc q ∷ qs) (made_spread setup hold (suc day) wants orders h.2)

-- the least costs are low
made_is_low : (setup hold at since potential paid : ℕ) (wants orders : List ℕ) → length orders ≡ length wants → potential ≤ paid + least_after setup hold since wants
    → is_low hold at potential paid (rows_of setup hold (at + since) wants orders) ≡ true
made_is_low setup hold at since potential paid [] orders h le = le-leb potential paid (omega arith)
made_is_low setup hold at since potential paid (n ∷ wants) [] h le = absurd (omega arith)
made_is_low setup hold at since potential paid (zero ∷ wants) (q ∷ orders) h le =
    let next : at + suc since ≡ suc (at + since) = omega arith in
    subst (λ day. is_low hold at potential paid (rows_of setup hold day wants orders) ≡ true) next (made_is_low setup hold at (suc since) potential paid wants orders (omega arith) le)
made_is_low setup hold at since potential paid (suc n ∷ wants) (q ∷ orders) h le =
    let next : at + suc since ≡ suc (at + since) = omega arith in
    let apart : (at + since) - at ≡ since = omega arith in
    let here = le-leb potential (paid + (setup + least_after setup hold 1 wants)) (omega arith) in
    let rest = subst (λ day. is_low hold at potential (paid + hold * (suc n * since)) (rows_of setup hold day wants orders) ≡ true) next
    (made_is_low setup hold at (suc since) potential (paid + hold * (suc n * since)) wants orders (omega arith) (omega arith)) in
    rw (here, apart) rest

made_are_low : (setup hold day : ℕ) (wants orders : List ℕ) → length orders ≡ length wants → are_low setup hold (rows_of setup hold day wants orders) ≡ true
made_are_low setup hold day [] orders h = refl
made_are_low setup hold day (n ∷ wants) [] h = refl
made_are_low setup hold day (zero ∷ wants) (q ∷ orders) h = made_are_low setup hold (suc day) wants orders (omega arith)
made_are_low setup hold day (suc n ∷ wants) (q ∷ orders) h =
    let next : day + 1 ≡ suc day = omega arith in
    let low = subst (λ d. is_low hold day (setup + least_after setup hold 1 wants) setup (rows_of setup hold d wants orders) ≡ true) next
    (made_is_low setup hold day 1 (setup + least_after setup hold 1 wants) setup wants orders (omega arith) (le_refl _)) in
    rw low (made_are_low setup hold (suc day) wants orders (omega arith))

pub made_first : (setup hold day : ℕ) (wants orders : List ℕ) → length orders ≡ length wants → first_potential (rows_of setup hold day wants orders) ≡ least_cost setup hold wants
made_first setup hold day [] orders h = refl
made_first setup hold day (n ∷ wants) [] h = absurd (omega arith)
made_first setup hold day (zero ∷ wants) (q ∷ orders) h = made_first setup hold (suc day) wants orders (omega arith)
made_first setup hold day (suc n ∷ wants) (q ∷ orders) h = refl

-- the rows of the best list, with the least cost
pub made_is_proof : (setup hold : ℕ) (short : List ℕ) (costs : Costs) → costs.rows ≡ rows_of setup hold 0 (needs short) (best setup hold (needs short)) → costs.cost ≡ least_cost setup hold (needs short)
    → is_proof setup hold short costs ≡ true
made_is_proof setup hold short costs rows_is cost_is =
    let it = best_is_simple setup hold (needs short) in
    let long = just_length (needs short) (best setup hold (needs short)) it.1 in
    let fit = ap (are_rows 0 (needs short)) rows_is ∙ made_rows setup hold 0 (needs short) (best setup hold (needs short)) long in
    let first = ap begins rows_is ∙ made_begins setup hold 0 (needs short) (best setup hold (needs short)) it in
    let right = ap are_amounts rows_is ∙ made_amounts setup hold 0 (needs short) (best setup hold (needs short)) it.1 in
    let spreads = ap (λ rows. cost setup hold short (spread (needs short) rows)) rows_is ∙ ap (cost setup hold short) (made_spread setup hold 0 (needs short) (best setup hold (needs short)) it.1) ∙ best_costs setup hold short in
    let one = eq-eqb costs.cost (cost setup hold short (spread (needs short) costs.rows)) (cost_is ∙ sym spreads) in
    let two = eq-eqb costs.cost (first_potential costs.rows) (cost_is ∙ sym (ap first_potential rows_is ∙ made_first setup hold 0 (needs short) (best setup hold (needs short)) long)) in
    let low = ap (are_low setup hold) rows_is ∙ made_are_low setup hold 0 (needs short) (best setup hold (needs short)) long in
    rw (fit, first, right, one, two) low

pub best_length : (setup hold : ℕ) (wants : List ℕ) → length (best setup hold wants) ≡ length wants
best_length setup hold wants = just_length wants (best setup hold wants) (best_is_simple setup hold wants).1

-- one more day
pub rows_none : (setup hold day : ℕ) (wants orders : List ℕ) → day < length wants → length orders ≡ length wants → get_or wants day 0 ≤ 0
    → rows_of setup hold day (drop day wants) (drop day orders) ≡ rows_of setup hold (day + 1) (drop (day + 1) wants) (drop (day + 1) orders)
rows_none setup hold day wants orders h long none =
    let zeroed : get_or wants day 0 ≡ 0 = omega arith in
    let one : drop day wants ≡ 0 ∷ drop (suc day) wants = drop-cons wants day 0 h ∙ ap (λ k. k ∷ drop (suc day) wants) zeroed in
    let two : drop day orders ≡ get_or orders day 0 ∷ drop (suc day) orders = drop-cons orders day 0 (omega arith) in
    ap (λ ws. rows_of setup hold day ws (drop day orders)) one ∙ ap (rows_of setup hold day (0 ∷ drop (suc day) wants)) two
    ∙ ap (λ k. rows_of setup hold k (drop k wants) (drop k orders)) (sym (add-one day))

pub rows_some : (setup hold day potential : ℕ) (wants orders : List ℕ) → day < length wants → length orders ≡ length wants → 0 < get_or wants day 0 → potential ≡ least_cost setup hold (drop day wants)
    → rows_of setup hold day (drop day wants) (drop day orders)
    ≡ record { at = day; need = get_or wants day 0; quantity = get_or orders day 0; potential = potential } ∷ rows_of setup hold (day + 1) (drop (day + 1) wants) (drop (day + 1) orders)
rows_some setup hold day potential wants orders h long some known =
    let one : drop day wants ≡ get_or wants day 0 ∷ drop (suc day) wants = drop-cons wants day 0 h in
    let two : drop day orders ≡ get_or orders day 0 ∷ drop (suc day) orders = drop-cons orders day 0 (omega arith) in
    ap (λ ws. rows_of setup hold day ws (drop day orders)) one ∙ ap (rows_of setup hold day (get_or wants day 0 ∷ drop (suc day) wants)) two
    ∙ some_row setup hold day potential (get_or wants day 0) (get_or orders day 0) (drop (suc day) wants) (drop (suc day) orders) some (known ∙ ap (least_cost setup hold) one)
    ∙ ap (λ k. record { at = day; need = get_or wants day 0; quantity = get_or orders day 0; potential = potential } ∷ rows_of setup hold k (drop k wants) (drop k orders)) (sym (add-one day))
  where
    some_row : (setup hold day potential n q : ℕ) (wants orders : List ℕ) → 0 < n → potential ≡ least_cost setup hold (n ∷ wants)
        → rows_of setup hold day (n ∷ wants) (q ∷ orders) ≡ record { at = day; need = n; quantity = q; potential = potential } ∷ rows_of setup hold (suc day) wants orders
    some_row setup hold day potential zero q wants orders h e = absurd (omega arith)
    some_row setup hold day potential (suc n) q wants orders h e = λ i. record { at = day; need = suc n; quantity = q; potential = sym e i } ∷ rows_of setup hold (suc day) wants orders

pub row_pushed : (made rows rest : List CostRow) (row : CostRow) → made ≡ rows ++ row ∷ [] → rows ++ (row ∷ rest) ≡ made ++ rest
row_pushed made rows rest row e = sym (ap (λ xs. xs ++ rest) e ∙ append_assoc rows (row ∷ []) rest)
