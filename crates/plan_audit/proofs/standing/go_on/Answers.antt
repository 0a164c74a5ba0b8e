use Rattle.std.proofs.Common.{◌≡◌, ◌<◌, ◌+◌, ◌++◌, ◌∷◌, [], length, take, ap, sym, ◌∙◌, arith}
use Rattle.std.proofs.lemmas.List.{take_more}
use Rattle.plan_audit.proofs.Entered.{stands_more}
use Rattle.plan_audit.proofs.standing.go_on.Goals as goal

pub loop-place-preserved : goal.loop-place-preserved
loop-place-preserved c = λ base at stands.
    let entries = c.args.entries.now in
    let place = c.loop-place.place in
    let entry = c.index-entries-place.result in
    let within : place < length entries = omega (arith, c.loop-place-test.true, c.requires.within) in
    let more : take (place + 1) entries ≡ take place entries ++ entry ∷ [] =
    take_more entries place entry within ∙ ap (λ e. take place entries ++ e ∷ []) (sym c.index-entries-place.is) in
    stands_more base entries c.loop-place.book c.enter.new.book place entry within more c.in_ok-enter.ensures.base c.in_ok-enter.ensures.entered
    (c.loop-place.invariant base at stands)
