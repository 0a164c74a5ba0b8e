use Rattle.std.proofs.Common.{◌-◌, length, take, drop, sym, ap, subst, arith}
use Rattle.std.specs.List.{sum}
use Rattle.lot_optimal.specs.Potentials.{AreToldFrom}
use Rattle.lot_optimal.proofs.Backward.{drop_sum}
use Rattle.lot_optimal.proofs.Filled.{told_shifted, rest_is}
use Rattle.lot_optimal.proofs.Ahead.{ahead_is_best}
use Rattle.lot_optimal.proofs.best.fill_orders.Goals as goal

pub loop-day-init : goal.loop-day-init
loop-day-init c = ahead_is_best c.args.setup c.args.hold c.args.wants.now

pub first_of-amount-requires-clause-total : goal.first_of-amount-requires-clause-total
first_of-amount-requires-clause-total c =
    let all = drop_sum c.args.wants.now c.loop-day.day in
    let same = ap sum (rest_is c.args.wants.now c.loop-day.day) in
    omega arith

pub first_of-amount-requires-clause-told : goal.first_of-amount-requires-clause-told
first_of-amount-requires-clause-told c =
    subst (λ wants. AreToldFrom 1 c.args.setup c.args.hold wants (take (length c.args.potentials.now - c.loop-day.day) (drop c.loop-day.day c.args.potentials.now))) (sym (rest_is c.args.wants.now c.loop-day.day))
    (subst (λ potentials. AreToldFrom 1 c.args.setup c.args.hold (drop c.loop-day.day c.args.wants.now) potentials) (sym (rest_is c.args.potentials.now c.loop-day.day))
    (told_shifted c.args.setup c.args.hold c.loop-day.day c.args.wants.now c.args.potentials.now (λ k from within some. c.requires.told k (omega arith) within some)))
