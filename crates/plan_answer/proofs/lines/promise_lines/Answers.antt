use Rattle.std.proofs.Common.{◌≡◌, ◌+◌, [], ◌∷◌, ◌++◌, map, sym, ◌∙◌, ap, arith}
use Rattle.std.specs.List.{range_with_len}
use Rattle.std.proofs.lemmas.List.{map-append}
use Rattle.plan_answer.specs.Replies.{promised_line}
use Rattle.plan_answer.proofs.PlanLines.{one_day}
use Rattle.plan_answer.proofs.lines.promise_lines.Goals as goal

pub loop-day-preserved : goal.loop-day-preserved
loop-day-preserved c =
    let day = c.loop-day.day in
    let line = promised_line c.args.start.now c.args.promised.now in
    let here : 0 + day ≡ day = omega arith in
    let text : c.as_slice.result.now ≡ line day = c.as_slice.ensures.value ∙ c.promise_line.ensures in
    c.in_ok-push.ensures.ok ∙ (λ i. c.loop-day.invariant i ++ text i ∷ [])
    ∙ sym (ap (map line) (one_day 0 day ∙ ap (λ d. range_with_len 0 day ++ d ∷ []) here) ∙ map-append line (range_with_len 0 day) (day ∷ []))
