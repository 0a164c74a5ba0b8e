use Rattle.std.proofs.Common.{refl}
use Rattle.version_reclaim.proofs.give_back.fn.reclaim.keep_only.Goals as goal

pub returns : goal.returns
returns g c = record { shown = c.args.key; shows = refl; set = _; has = refl; says = record { met = c.keep.ensures } }
