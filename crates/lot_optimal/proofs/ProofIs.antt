-- What is looked at one after the other is the whole proof.
use Rattle.std.proofs.Common.{◌≡◌, ◌≢◌, ℕ, List, Bool, ◌==◌, refl, sym, ◌∙◌, ap, arith, true, false}
use Rattle.std.proofs.lemmas.Bool.{eq-eqb}
use Rattle.std.proofs.lemmas.Bool.Decides.{nat_tests}
use Rattle.planning_rules.specs.BestLots.{needs, cost}
use Rattle.lot_optimal.specs.declared.rows.CostRow.{CostRow}
use Rattle.lot_optimal.specs.declared.rows.Costs.{Costs}
use Rattle.lot_optimal.specs.Costs.{are_rows, are_amounts, begins, spread, first_potential, are_low, is_proof, rows_cost}
use Rattle.lot_optimal.proofs.SpreadLaws.{spread_cost}

other_nat : (a b : ℕ) → a ≢ b → (a == b) ≡ false
other_nat a b e = grind (arith, nat_tests)

pub proof_is : (setup hold : ℕ) (short wants : List ℕ) (costs : Costs) (rows : List CostRow) (last : Bool) → wants ≡ needs short → rows ≡ costs.rows
    → are_rows 0 wants rows ≡ true → begins rows ≡ true → are_amounts rows ≡ true → costs.cost ≡ rows_cost setup hold 0 rows → costs.cost ≡ first_potential rows → last ≡ are_low setup hold rows
    → last ≡ is_proof setup hold short costs
proof_is setup hold short wants costs rows last w e fit first right cost_is potential_is low =
    let fits : are_rows 0 (needs short) costs.rows ≡ true = ap (λ ws. are_rows 0 ws costs.rows) (sym w) ∙ ap (are_rows 0 wants) (sym e) ∙ fit in
    let firsts : begins costs.rows ≡ true = ap begins (sym e) ∙ first in
    let rights : are_amounts costs.rows ≡ true = ap are_amounts (sym e) ∙ right in
    let costs_is : costs.cost ≡ cost setup hold short (spread (needs short) costs.rows) = cost_is ∙ ap (rows_cost setup hold 0) e ∙ sym (spread_cost setup hold short costs.rows fits firsts rights) in
    let one = eq-eqb costs.cost (cost setup hold short (spread (needs short) costs.rows)) costs_is in
    let two = eq-eqb costs.cost (first_potential costs.rows) (potential_is ∙ ap first_potential e) in
    low ∙ ap (are_low setup hold) e ∙ sym (rw (fits, firsts, rights, one, two) refl)

pub not_the_cost : (setup hold : ℕ) (short wants : List ℕ) (costs : Costs) (rows : List CostRow) → wants ≡ needs short → rows ≡ costs.rows
    → are_rows 0 wants rows ≡ true → begins rows ≡ true → are_amounts rows ≡ true → costs.cost ≢ rows_cost setup hold 0 rows → false ≡ is_proof setup hold short costs
not_the_cost setup hold short wants costs rows w e fit first right other =
    let fits : are_rows 0 (needs short) costs.rows ≡ true = ap (λ ws. are_rows 0 ws costs.rows) (sym w) ∙ ap (are_rows 0 wants) (sym e) ∙ fit in
    let firsts : begins costs.rows ≡ true = ap begins (sym e) ∙ first in
    let rights : are_amounts costs.rows ≡ true = ap are_amounts (sym e) ∙ right in
    let none = other_nat costs.cost (cost setup hold short (spread (needs short) costs.rows)) (λ same. other (same ∙ spread_cost setup hold short costs.rows fits firsts rights ∙ ap (rows_cost setup hold 0) (sym e))) in
    sym (rw (fits, firsts, rights, none) refl)
