use Rattle.std.proofs.Common.{◌≡◌, ◌-◌, suc, subst, arith, slice_index_or, ◌∙◌}
use Rattle.lot_optimal.proofs.Backward.{IsTold, told_back, told_cost, told_amount, first_cost, first_amount_is}
use Rattle.lot_optimal.proofs.potentials.first_of.Goals as goal

pub look_back-first-requires-clause-cost : goal.look_back-first-requires-clause-cost
look_back-first-requires-clause-cost c =
    told_cost c.args.setup c.args.hold c.args.wants.now c.loop-day.day c.loop-day.first.cost c.loop-day.first.amount c.requires.hold c.requires.total c.requires.days c.loop-day.invariant.within c.loop-day.invariant.told

pub look_back-first-requires-clause-amount : goal.look_back-first-requires-clause-amount
look_back-first-requires-clause-amount c =
    let next : c.loop-day.day ≡ suc (c.loop-day.day - 1) = omega arith in
    let told = subst (λ day. IsTold c.args.setup c.args.hold c.args.wants.now day c.loop-day.first.cost c.loop-day.first.amount) next c.loop-day.invariant.told in
    let some = told_amount c.args.setup c.args.hold c.args.wants.now (c.loop-day.day - 1) c.loop-day.first.cost c.loop-day.first.amount (omega arith) told in
    omega arith

pub loop-day-preserved : goal.loop-day-preserved
loop-day-preserved c =
    let next : c.loop-day.day ≡ suc (c.loop-day.day - 1) = omega arith in
    let told = subst (λ day. IsTold c.args.setup c.args.hold c.args.wants.now day c.loop-day.first.cost c.loop-day.first.amount) next c.loop-day.invariant.told in
    let back = told_back c.args.setup c.args.hold c.args.wants.now (c.loop-day.day - 1) (slice_index_or c.args.potentials.now (c.loop-day.day - 1) 0) c.loop-day.first.cost c.loop-day.first.amount
    (omega arith) (c.requires.told (c.loop-day.day - 1) (omega arith) (omega arith)) told in
    record {
      some = omega arith;
      within = omega arith;
      told = record { cost_is = c.look_back-first.ensures.cost ∙ back.cost_is; amount_is = c.look_back-first.ensures.amount ∙ back.amount_is };
    }

pub overflow_add-result : goal.overflow_add-result
overflow_add-result c =
    let low = told_cost c.args.setup c.args.hold c.args.wants.now c.loop-day.day c.loop-day.first.cost c.loop-day.first.amount c.requires.hold c.requires.total c.requires.days c.loop-day.invariant.within c.loop-day.invariant.told in
    omega arith

pub overflow_add-result-2 : goal.overflow_add-result-2
overflow_add-result-2 c =
    let next : c.loop-day.day ≡ suc 0 = omega arith in
    let told = subst (λ day. IsTold c.args.setup c.args.hold c.args.wants.now day c.loop-day.first.cost c.loop-day.first.amount) next c.loop-day.invariant.told in
    let some = told_amount c.args.setup c.args.hold c.args.wants.now 0 c.loop-day.first.cost c.loop-day.first.amount (omega arith) told in
    omega arith

pub returns-clause-cost : goal.returns-clause-cost
returns-clause-cost c =
    let one : c.loop-day.day ≡ 1 = omega arith in
    first_cost c.args.setup c.args.hold c.args.wants.now c.loop-day.first.cost c.loop-day.first.amount c.requires.some
    (subst (λ day. IsTold c.args.setup c.args.hold c.args.wants.now day c.loop-day.first.cost c.loop-day.first.amount) one c.loop-day.invariant.told)

pub returns-clause-amount : goal.returns-clause-amount
returns-clause-amount c =
    let one : c.loop-day.day ≡ 1 = omega arith in
    first_amount_is c.args.setup c.args.hold c.args.wants.now c.loop-day.first.cost c.loop-day.first.amount c.requires.some
    (subst (λ day. IsTold c.args.setup c.args.hold c.args.wants.now day c.loop-day.first.cost c.loop-day.first.amount) one c.loop-day.invariant.told)
