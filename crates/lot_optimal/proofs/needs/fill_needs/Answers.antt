use Rattle.std.proofs.Common.{◌≡◌, ◌<◌, ◌+◌, length, drop, map, get_or, sym, ◌∙◌, ap, arith}
use Rattle.std.specs.Prelude.{pos}
use Rattle.std.proofs.lemmas.List.{get_or-map, length-map, take_all}
use Rattle.planning_rules.specs.Shortages.{shortage}
use Rattle.planning_rules.specs.BestLots.{needs, needs_after}
use Rattle.lot_optimal.proofs.Filled.{rest_more, need_here, done_more, length_needs}
use Rattle.lot_optimal.proofs.needs.fill_needs.Goals as goal

pub loop-day-preserved : goal.loop-day-preserved
loop-day-preserved c =
    let within : c.loop-day.day < length c.args.short.now = c.loop-day-test.true in
    let also : c.loop-day.day < length (map shortage c.args.short.now) = omega (arith, length-map c.args.short.now shortage) in
    let here : c.shortage_of-now.result ≡ get_or (map shortage c.args.short.now) c.loop-day.day 0 = c.shortage_of-now.ensures ∙ sym (get_or-map shortage c.args.short.now c.loop-day.day (pos 0) 0 within) in
    let need = need_here c.loop-day.most c.loop-day.day c.shortage_of-now.result (needs (map shortage c.args.short.now)) (map shortage c.args.short.now) also here c.loop-day.invariant.rest in
    let known : c.loop-day.day < length (needs (map shortage c.args.short.now)) = omega (arith, length_needs 0 (map shortage c.args.short.now)) in
    let room : c.loop-day.day < length c.loop-day.wants = omega (arith, c.loop-day.auto.wants, c.requires.room) in
    record {
      rest = rest_more c.loop-day.most c.loop-day.day c.shortage_of-now.result (needs (map shortage c.args.short.now)) (map shortage c.args.short.now) also here c.loop-day.invariant.rest
          ∙ ap (λ most. needs_after most (drop (c.loop-day.day + 1) (map shortage c.args.short.now))) (sym c.max-most.ensures);
      done = done_more c.loop-day.day c.saturating_sub.result c.loop-day.wants (needs (map shortage c.args.short.now)) room known (need ∙ sym c.saturating_sub.ensures) c.loop-day.invariant.done;
    }

pub returns : goal.returns
returns c =
    let all : length c.args.short.now ≡ c.loop-day.day = omega arith in
    let whole : length c.loop-day.wants ≡ length c.args.short.now = c.loop-day.auto.wants ∙ c.requires.room in
    let known : length (needs (map shortage c.args.short.now)) ≡ length c.args.short.now = length_needs 0 (map shortage c.args.short.now) ∙ length-map c.args.short.now shortage in
    sym (take_all c.loop-day.day c.loop-day.wants (omega arith)) ∙ c.loop-day.invariant.done ∙ take_all c.loop-day.day (needs (map shortage c.args.short.now)) (omega arith)
