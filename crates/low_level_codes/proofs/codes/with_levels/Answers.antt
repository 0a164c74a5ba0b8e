use Rattle.std.proofs.Common.{◌≡◌, ◌<◌, None, Some, length, arith, get_or, refl, sym}
use Rattle.std.specs.Prelude.{slice_get}
use Rattle.std.proofs.lemmas.Option.{slice_get-get_or, slice_get_read}
use Rattle.low_level_codes.proofs.Above.{level_there}
use Rattle.low_level_codes.proofs.Leveled.{holds_more}
use Rattle.low_level_codes.proofs.codes.with_levels.Goals as goal

pub returns-in_default : goal.returns-in_default
returns-in_default c =
    let at = c.loop-at.at in
    let long = c.requires.long in
    let low : at < length c.args.places.now = omega arith in
    let place = get_or c.args.places.now at 0 in
    let here : slice_get c.args.places.now at ≡ Some place = slice_get-get_or c.args.places.now at 0 low in
    (at, place, here, level_there c.args.levels.now place None None (c.requires.inside at place here) (sym c.in_default.is))

pub loop-at-preserved : goal.loop-at-preserved
loop-at-preserved c =
    let at = c.loop-at.at in
    let long = c.requires.long in
    let low : at < length c.args.places.now = omega arith in
    let place = get_or c.args.places.now at 0 in
    let name = c.index-names-at.result in
    let here : slice_get c.args.places.now at ≡ Some place = slice_get-get_or c.args.places.now at 0 low in
    let there : slice_get c.args.names.now at ≡ Some name = slice_get_read c.args.names.now (length c.args.names.now) at name refl c.loop-at-test.true c.index-names-at.is in
    holds_more c.args.levels.now c.args.places.now c.args.names.now at c.loop-at.found.keys c.insert.new.self.keys c.loop-at.invariant place name c.in-Some.level here there
    (level_there c.args.levels.now place (Some c.in-Some.level) None (c.requires.inside at place here) (sym c.in-Some.is)) (λ p. c.in_ok-insert.ensures.updates.0 p) c.in_ok-insert.ensures.ordered
