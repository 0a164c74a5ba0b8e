use Rattle.std.proofs.Common.{◌≤◌, length, map, sym, ◌∙◌, ap, subst}
use Rattle.std.specs.List.{sum}
use Rattle.planning_rules.specs.Shortages.{shortage}
use Rattle.planning_rules.specs.BestLots.{needs, best}
use Rattle.lot_optimal.specs.Costs.{rows_of, first_potential}
use Rattle.lot_optimal.proofs.Filled.{needs_small}
use Rattle.lot_optimal.proofs.MadeLaws.{made_first, made_is_proof, best_length}
use Rattle.lot_optimal.proofs.making.costs.Goals as goal

pub fill_potentials-requires-clause-total : goal.fill_potentials-requires-clause-total
fill_potentials-requires-clause-total c = subst (λ wants. sum wants ≤ 1000000000000000000) (sym c.fill_needs.ensures) (needs_small c.args.short.now c.requires.reach)

pub rows_made-requires-clause-same : goal.rows_made-requires-clause-same
rows_made-requires-clause-same c =
    ap length (c.as_slice.ensures ∙ c.requires.planned) ∙ best_length c.args.setup c.args.hold (needs (map shortage c.args.short.now)) ∙ sym (ap length c.fill_needs.ensures)

pub returns-clause-cost : goal.returns-clause-cost
returns-clause-cost c =
    let rows_is = c.in_ok-rows.ensures ∙ ap (λ wants. rows_of c.args.setup c.args.hold 0 wants c.as_slice.result.now) c.fill_needs.ensures
    ∙ ap (rows_of c.args.setup c.args.hold 0 (needs (map shortage c.args.short.now))) (c.as_slice.ensures ∙ c.requires.planned) in
    c.potential_of-cost.ensures ∙ ap first_potential (c.as_slice-2.ensures ∙ rows_is)
    ∙ made_first c.args.setup c.args.hold 0 (needs (map shortage c.args.short.now)) (best c.args.setup c.args.hold (needs (map shortage c.args.short.now))) (best_length c.args.setup c.args.hold (needs (map shortage c.args.short.now)))

pub returns-clause-passes : goal.returns-clause-passes
returns-clause-passes c =
    let rows_is = c.in_ok-rows.ensures ∙ ap (λ wants. rows_of c.args.setup c.args.hold 0 wants c.as_slice.result.now) c.fill_needs.ensures
    ∙ ap (rows_of c.args.setup c.args.hold 0 (needs (map shortage c.args.short.now))) (c.as_slice.ensures ∙ c.requires.planned) in
    made_is_proof c.args.setup c.args.hold (map shortage c.args.short.now) (record { cost = c.potential_of-cost.result; rows = c.in_ok-rows.rows }) rows_is
    (c.potential_of-cost.ensures ∙ ap first_potential (c.as_slice-2.ensures ∙ rows_is)
    ∙ made_first c.args.setup c.args.hold 0 (needs (map shortage c.args.short.now)) (best c.args.setup c.args.hold (needs (map shortage c.args.short.now))) (best_length c.args.setup c.args.hold (needs (map shortage c.args.short.now))))
