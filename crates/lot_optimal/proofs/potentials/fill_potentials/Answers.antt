use Rattle.std.proofs.Common.{◌≡◌, ◌-◌, suc, length, take, drop, sym, ap, subst, arith}
use Rattle.std.specs.List.{sum}
use Rattle.lot_optimal.specs.Potentials.{AreToldFrom}
use Rattle.lot_optimal.proofs.Backward.{drop_sum}
use Rattle.lot_optimal.proofs.Filled.{told_shifted, rest_is}
use Rattle.lot_optimal.proofs.potentials.fill_potentials.Goals as goal

pub first_of-requires-clause-total : goal.first_of-requires-clause-total
first_of-requires-clause-total c =
    let all = drop_sum c.args.wants.now (c.loop-day.day - 1) in
    let same = ap sum (rest_is c.args.wants.now (c.loop-day.day - 1)) in
    omega arith

pub first_of-requires-clause-told : goal.first_of-requires-clause-told
first_of-requires-clause-told c =
    let next : c.loop-day.day ≡ suc (c.loop-day.day - 1) = omega arith in
    let told = subst (λ day. AreToldFrom day c.args.setup c.args.hold c.args.wants.now c.loop-day.potentials) next c.loop-day.invariant.told in
    subst (λ wants. AreToldFrom 1 c.args.setup c.args.hold wants (take (length c.loop-day.potentials - (c.loop-day.day - 1)) (drop (c.loop-day.day - 1) c.loop-day.potentials))) (sym (rest_is c.args.wants.now (c.loop-day.day - 1)))
    (subst (λ potentials. AreToldFrom 1 c.args.setup c.args.hold (drop (c.loop-day.day - 1) c.args.wants.now) potentials) (sym (rest_is c.loop-day.potentials (c.loop-day.day - 1)))
    (told_shifted c.args.setup c.args.hold (c.loop-day.day - 1) c.args.wants.now c.loop-day.potentials told))
