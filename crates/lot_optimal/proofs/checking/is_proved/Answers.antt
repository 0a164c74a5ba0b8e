use Rattle.std.proofs.Common.{◌≡◌, length, map, sym, ◌∙◌, ap, arith}
use Rattle.std.specs.List.{sum}
use Rattle.std.proofs.lemmas.List.{length-map}
use Rattle.planning_rules.specs.Shortages.{shortage}
use Rattle.lot_optimal.proofs.Filled.{length_needs, needs_small}
use Rattle.lot_optimal.proofs.SpreadLaws.{rows_sum, rows_few}
use Rattle.lot_optimal.proofs.ProofIs.{proof_is, not_the_cost}
use Rattle.lot_optimal.proofs.checking.is_proved.Goals as goal

pub fit_needs-requires : goal.fit_needs-requires
fit_needs-requires c =
    let long : length c.args.wants.now ≡ length c.args.short.now = ap length c.requires.wants ∙ length_needs 0 (map shortage c.args.short.now) ∙ length-map c.args.short.now shortage in
    record { days = omega arith }

pub have_amounts-requires : goal.have_amounts-requires
have_amounts-requires c =
    let all = rows_sum 0 c.args.wants.now c.as_slice-rows.result.now (sym c.fit_needs.ensures ∙ c.if-not-fit_needs.false) in
    let small = needs_small c.args.short.now c.requires.reach in
    let is = ap sum c.requires.wants in
    record { total = omega arith }

pub cost_of-cost-requires-clause-rows : goal.cost_of-cost-requires-clause-rows
cost_of-cost-requires-clause-rows c =
    let few = rows_few 0 c.args.wants.now c.as_slice-rows.result.now (sym c.fit_needs.ensures ∙ c.if-not-fit_needs.false) in
    let long : length c.args.wants.now ≡ length c.args.short.now = ap length c.requires.wants ∙ length_needs 0 (map shortage c.args.short.now) ∙ length-map c.args.short.now shortage in
    omega arith

pub returns-then-costs-cost : goal.returns-then-costs-cost
returns-then-costs-cost c =
    not_the_cost c.args.setup c.args.hold (map shortage c.args.short.now) c.args.wants.now c.args.costs.now c.as_slice-rows.result.now c.requires.wants c.as_slice-rows.ensures
    (sym c.fit_needs.ensures ∙ c.if-not-fit_needs.false) (sym c.first_ordered.ensures ∙ c.if-not-first_ordered.false) (sym c.have_amounts.ensures ∙ c.if-not-have_amounts.false)
    (λ e. c.if-costs-cost.true (e ∙ sym c.cost_of-cost.ensures))

pub all_low-requires-clause-rows : goal.all_low-requires-clause-rows
all_low-requires-clause-rows c =
    let few = rows_few 0 c.args.wants.now c.as_slice-rows.result.now (sym c.fit_needs.ensures ∙ c.if-not-fit_needs.false) in
    let long : length c.args.wants.now ≡ length c.args.short.now = ap length c.requires.wants ∙ length_needs 0 (map shortage c.args.short.now) ∙ length-map c.args.short.now shortage in
    omega arith

pub returns : goal.returns
returns c =
    proof_is c.args.setup c.args.hold (map shortage c.args.short.now) c.args.wants.now c.args.costs.now c.as_slice-rows.result.now c.all_low.result c.requires.wants c.as_slice-rows.ensures
    (sym c.fit_needs.ensures ∙ c.if-not-fit_needs.false) (sym c.first_ordered.ensures ∙ c.if-not-first_ordered.false) (sym c.have_amounts.ensures ∙ c.if-not-have_amounts.false)
    (c.if-costs-cost.false ∙ c.cost_of-cost.ensures) (c.if-costs-potential_of.false ∙ c.potential_of.ensures) c.all_low.ensures
