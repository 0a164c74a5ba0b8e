use Rattle.std.proofs.Common.{◌≡◌, ◌+◌, ◌-◌, ◌*◌, ◌<◌, ◌≤◌, [], length, ◌∷◌, ◌++◌, slice_index_or, arith, subst, sym, ap}
use Rattle.std.proofs.lemmas.List.Elements.{All-push}
use Rattle.std.proofs.lemmas.Grind.{common_steps}
use Rattle.planning_rules.specs.Netting.{limit}
use Rattle.lot_sizing.proofs.LotLaws.{sound_lot}
use Rattle.netting.specs.Inputs.{given}
use Rattle.netting.specs.DayByDay.{IsPlannedTo}
use Rattle.netting.proofs.DayByDay.{going_on}
use Rattle.netting.proofs.NetLaws.{Balanced, balanced_push, balanced_all, large_here, day_covers, order_here, next_balance}
use Rattle.netting.proofs.step.plan_days.Goals as goal

pub next_order-order-requires-clause-going : goal.next_order-order-requires-clause-going
next_order-order-requires-clause-going c =
    let x = given c.args.input.now in
    subst (λ p. IsPlannedTo x (length p) p c.loop-day.balance) (sym c.as_slice.ensures.value)
    (subst (λ n. IsPlannedTo x n c.loop-day.planned.items c.loop-day.balance) (sym c.loop-day.invariant.going.orders.whole) c.loop-day.invariant.going)

pub returns-then-order-gt-LIMIT-clause-large : goal.returns-then-order-gt-LIMIT-clause-large
returns-then-order-gt-LIMIT-clause-large c =
    let x = given c.args.input.now in
    let t = c.loop-day.day in
    let o = order_here x t c.next_order-order.result c.loop-day.planned.items _ c.as_slice.ensures.value c.loop-day.invariant.going.orders.whole c.next_order-order.ensures in
    let ht : t < length c.args.input.now.gross = rw (← c.as_slice-gross.ensures) c.loop-day-test.true in
    large_here x t c.loop-day.planned.items c.next_order-order.result c.loop-day.invariant.going.orders ht o c.if-order-gt-LIMIT.true

pub returns-clause-balance : goal.returns-clause-balance
returns-clause-balance c =
    let whole : c.loop-day.day ≡ length c.args.input.now.gross = rw (← c.as_slice-gross.ensures) (omega arith) in
    balanced_all (given c.args.input.now) c.loop-day.planned.items c.loop-day.balances.items
    (subst (λ n. Balanced (given c.args.input.now) n c.loop-day.planned.items c.loop-day.balances.items) whole c.loop-day.invariant.kept)

pub overflow_sub-balance : goal.overflow_sub-balance
overflow_sub-balance c =
    let x = given c.args.input.now in
    let t = c.loop-day.day in
    let o = order_here x t c.next_order-order.result c.loop-day.planned.items _ c.as_slice.ensures.value c.loop-day.invariant.going.orders.whole c.next_order-order.ensures in
    let hg : t < length c.args.input.now.gross = rw (← c.as_slice-gross.ensures) c.loop-day-test.true in
    let hs : t < length c.args.input.now.sched = omega (arith, c.requires.sched_days) in
    let covers = day_covers x t c.loop-day.balance c.next_order-order.result c.loop-day.planned.items (sound_lot c.args.input.now.lot c.requires.lot) c.loop-day.invariant.going hg hs o in
    let g : slice_index_or c.as_slice-gross.result.now t 0 ≡ slice_index_or c.args.input.now.gross t 0 = ap (λ xs. slice_index_or xs t 0) c.as_slice-gross.ensures in
    let s : slice_index_or c.as_slice-sched.result.now t 0 ≡ slice_index_or c.args.input.now.sched t 0 = ap (λ xs. slice_index_or xs t 0) c.as_slice-sched.ensures in
    omega arith

pub loop-day-preserved : goal.loop-day-preserved
loop-day-preserved c =
    let x = given c.args.input.now in
    let t = c.loop-day.day in
    let o = order_here x t c.next_order-order.result c.loop-day.planned.items _ c.as_slice.ensures.value c.loop-day.invariant.going.orders.whole c.next_order-order.ensures in
    let hg : t < length c.args.input.now.gross = rw (← c.as_slice-gross.ensures) c.loop-day-test.true in
    let hs : t < length c.args.input.now.sched = omega (arith, c.requires.sched_days) in
    let pushed : c.push.new.self.items ≡ c.loop-day.planned.items ++ c.next_order-order.result ∷ [] = grind (arith, common_steps) in
    let also : c.push-in-loop-day.new.self.items ≡ c.loop-day.balances.items ++ (c.loop-day.balance + slice_index_or c.as_slice-sched.result.now t 0 + c.next_order-order.result - slice_index_or c.as_slice-gross.result.now t 0) ∷ [] = grind (arith, common_steps) in
    let covers = day_covers x t c.loop-day.balance c.next_order-order.result c.loop-day.planned.items (sound_lot c.args.input.now.lot c.requires.lot) c.loop-day.invariant.going hg hs o in
    let next = next_balance c.args.input.now.safety c.loop-day.balance c.next_order-order.result t _ _ c.args.input.now.gross c.args.input.now.sched c.as_slice-gross.ensures c.as_slice-sched.ensures covers in
    let on = going_on x t c.loop-day.planned.items c.loop-day.balance c.next_order-order.result _ c.loop-day.invariant.going hg hs o next in
    let little : slice_index_or c.as_slice-sched.result.now t 0 ≤ 200000000000000 = rw c.as_slice-sched.ensures (c.requires.sched t 0 hs) in
    let not_much : c.next_order-order.result ≤ 1000000000000000 = c.if-order-gt-LIMIT.false in
    let so_far : c.loop-day.balance ≤ 1000000000 + c.loop-day.day * 1200000000000000 = c.loop-day.invariant.small in
    record {
      going = rw pushed on;
      kept = rw (pushed, also) (balanced_push x t c.loop-day.planned.items c.loop-day.balances.items _ _ c.loop-day.invariant.going.orders.whole c.loop-day.invariant.kept on);
      small = omega arith;
      within = rw pushed (All-push (λ n. n ≤ limit) c.loop-day.planned.items c.next_order-order.result c.loop-day.invariant.within c.if-order-gt-LIMIT.false);
    }
