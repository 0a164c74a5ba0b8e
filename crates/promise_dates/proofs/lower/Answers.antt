use Rattle.std.proofs.Common.{◌≡◌, suc, ◌-◌, length, get_or, min, ap, arith, ◌∙◌}
use Rattle.std.proofs.Math.ListN.{set, length-set}
use Rattle.promise_dates.proofs.PromiseLaws.{lowered, last_is, one_lower}
use Rattle.promise_dates.proofs.lower.Goals as goal

pub loop-day-init : goal.loop-day-init
loop-day-init c = record { within = omega arith; lower = last_is (length c.args.numbers.now - 1) c.args.numbers.now (omega arith) }

pub loop-day-preserved : goal.loop-day-preserved
loop-day-preserved c =
    let day = c.loop-day.day - 1 - 1 in
    let next : c.loop-day.day - 1 ≡ suc day = omega arith in
    let old = c.args.numbers.now in
    let now : c.loop-day.numbers ≡ lowered (suc day) old = c.loop-day.invariant.lower ∙ ap (λ d. lowered d old) next in
    let least : c.min.result ≡ min (get_or (lowered (suc day) old) day 0) (get_or (lowered (suc day) old) (suc day) 0) = c.min.ensures ∙ (λ i. min (get_or (now i) day 0) (get_or (now i) (next i) 0)) in
    record {
      within = omega (arith, length-set c.loop-day.numbers day c.min.result);
      lower = (λ i. set (now i) day (least i)) ∙ one_lower day old (omega arith);
    }

pub returns : goal.returns
returns c = let first : c.loop-day.day - 1 ≡ 0 = omega arith in rw first at c.loop-day.invariant.lower
