use Rattle.std.proofs.Common.{◌≡◌, ◌+◌, ◌<◌, ℕ, suc, [], ◌∷◌, ◌++◌, length, take, get_or, sym, ◌∙◌, ap, arith}
use Rattle.std.proofs.lemmas.List.Sums.{sum_by_more}
use Rattle.std.proofs.lemmas.List.FromFn.{map-range_with_len_more}
use Rattle.std.specs.Prelude.{sum}
use Rattle.full_pegging.proofs.streams.befores_of.Goals as goal

pub loop-day-preserved : goal.loop-day-preserved
loop-day-preserved c =
    let sched = c.args.sched.now in
    let planned = c.args.planned.now in
    let day = c.loop-day.day in
    let low : day < length planned = c.loop-day-test.true in
    let days = c.requires.days in
    let more_s = sum_by_more (λ (x : ℕ). x) sched day 0 (omega (arith, low, days)) in
    let more_p = sum_by_more (λ (x : ℕ). x) planned day 0 low in
    let there = c.loop-day.invariant.1 in
    let made = c.loop-day.invariant.2 in
    let next : day + 1 ≡ suc day = omega arith in
    let up = ap (λ k. sum (take k sched)) next in
    let value : (c.loop-day.there + get_or sched day 0) + c.loop-day.made ≡ (c.args.stock + sum (take (suc day) sched)) + sum (take day planned) = omega (arith, more_s, there, made, up) in (
      c.in_ok-push.ensures.items ∙ (λ i. c.loop-day.invariant.0 i ++ value i ∷ [])
          ∙ sym (map-range_with_len_more (λ t. (c.args.stock + sum (take (suc t) sched)) + sum (take t planned)) 0 day day (omega arith)),
      omega (arith, there, more_s),
      omega (arith, made, more_p),
    )
