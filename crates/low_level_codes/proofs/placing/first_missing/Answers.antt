use Rattle.std.proofs.Common.{◌≡◌, ◌<◌, None, Some, length, get_or, refl, sym, ◌∙◌, ap, arith}
use Rattle.std.specs.Prelude.{not}
use Rattle.std.proofs.lemmas.Option.{slice_get-get_or, slice_get_within}
use Rattle.low_level_codes.specs.Graphs.{level_at}
use Rattle.low_level_codes.proofs.Above.{all_index, level_there, is_none_tells}
use Rattle.low_level_codes.proofs.placing.first_missing.Goals as goal

pub returns-then-is_none : goal.returns-then-is_none
returns-then-is_none c = λ q is.
    let at = c.loop-at.at in
    let place = get_or c.args.places.now at 0 in
    let one : Some q ≡ Some place = sym is ∙ slice_get-get_or c.args.places.now at 0 c.loop-at-test.true in
    let same : q ≡ place = cc in
    let inside = all_index (λ q. q < length c.args.levels.now) c.args.places.now at 0 c.loop-at-test.true c.requires in
    ap (level_at c.args.levels.now) same ∙ level_there c.args.levels.now place (get_or c.args.levels.now place None) None inside refl ∙ is_none_tells (get_or c.args.levels.now place None) (ap not c.is_none.ensures ∙ ap (λ b. not (not b)) c.if-is_none.true)

pub returns : goal.returns
returns c = λ q is. let less = slice_get_within c.args.places.now c.loop-at.at q is in let more = c.loop-at-test.false in absurd (omega arith)
