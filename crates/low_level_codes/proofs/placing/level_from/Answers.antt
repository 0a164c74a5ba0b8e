use Rattle.std.proofs.Common.{get_or, sym}
use Rattle.std.proofs.lemmas.Option.{slice_get-get_or}
use Rattle.low_level_codes.specs.Graphs.{level_at}
use Rattle.low_level_codes.proofs.Above.{none_there}
use Rattle.low_level_codes.proofs.placing.level_from.Goals as goal

pub returns-then-missing-places-clause-above : goal.returns-then-missing-places-clause-above
returns-then-missing-places-clause-above c =
    let at = c.first_missing-missing.result in
    let place = get_or c.args.places.now at 0 in
    let here = slice_get-get_or c.args.places.now at 0 c.if-missing-places.true in
    sym (none_there (level_at c.args.levels.now) c.args.places.now at place here (c.first_missing-missing.ensures place here))
