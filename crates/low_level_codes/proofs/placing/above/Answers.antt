use Rattle.std.proofs.Common.{◌≡◌, ◌<◌, ◌+◌, ℕ, None, Some, map, length, arith, get_or, max, sym, ◌∙◌, subst, drop}
use Rattle.std.proofs.lemmas.Bool.Decides.{nat_tests}
use Rattle.std.specs.Ordering.{ord_max, nat_cmp}
use Rattle.planning_rules.specs.Bills.{above_all}
use Rattle.low_level_codes.specs.Graphs.{level_at}
use Rattle.low_level_codes.proofs.Above.{all_index, level_there, step_some, step_none, at_least}
use Rattle.low_level_codes.proofs.placing.above.Goals as goal

pub returns-in_default-clause-above : goal.returns-in_default-clause-above
returns-in_default-clause-above c =
    let i = c.loop-place.place-index in
    let place = get_or c.args.places.now i 0 in
    let inside = all_index (λ q. q < length c.args.levels.now) c.args.places.now i 0 c.loop-place-test.true c.requires.inside in
    step_none (level_at c.args.levels.now) c.args.places.now i 0 c.loop-place.above (above_all (map (level_at c.args.levels.now) c.args.places.now)) c.loop-place-test.true
    (level_there c.args.levels.now place None None inside (sym c.in_default.is)) c.loop-place.invariant.lead

pub overflow_add-level : goal.overflow_add-level
overflow_add-level c =
    let i = c.loop-place.place-index in
    let place = get_or c.args.places.now i 0 in
    let inside = all_index (λ q. q < length c.args.levels.now) c.args.places.now i 0 c.loop-place-test.true c.requires.inside in
    let here = level_there c.args.levels.now place (Some c.in-Some.level) None inside (sym c.in-Some.is) in
    let less = c.requires.low place c.in-Some.level here in
    omega arith

greater : (a b : ℕ) → ord_max nat_cmp a b ≡ max a b
greater a b = grind (arith, nat_tests)

pub loop-place-preserved : goal.loop-place-preserved
loop-place-preserved c =
    let i = c.loop-place.place-index in
    let place = get_or c.args.places.now i 0 in
    let inside = all_index (λ q. q < length c.args.levels.now) c.args.places.now i 0 c.loop-place-test.true c.requires.inside in
    let here = level_there c.args.levels.now place (Some c.in-Some.level) None inside (sym c.in-Some.is) in
    let less = c.requires.low place c.in-Some.level here in
    let e : c.max-above.result ≡ max c.loop-place.above (c.in-Some.level + 1) = c.max-above.ensures ∙ greater c.loop-place.above (c.in-Some.level + 1) in
    let step = step_some (level_at c.args.levels.now) c.args.places.now i 0 c.loop-place.above c.in-Some.level (above_all (map (level_at c.args.levels.now) c.args.places.now)) c.loop-place-test.true here c.loop-place.invariant.lead in
    record {
      lead = subst (λ a. above_all (map (level_at c.args.levels.now) c.args.places.now) ≡ at_least a (above_all (map (level_at c.args.levels.now) (drop (i + 1) c.args.places.now)))) (sym e) step;
      low = let low = c.loop-place.invariant.low in omega arith;
    }
