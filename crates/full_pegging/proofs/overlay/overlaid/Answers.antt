use Rattle.std.proofs.Common.{◌+◌, ◌-◌, arith, refl}
use Rattle.full_pegging.proofs.MeetingRows.{overlaid}
use Rattle.full_pegging.proofs.overlay.overlaid.Goals as goal

pub returns-clause-weight : goal.returns-clause-weight
returns-clause-weight c = λ measure.
    let is = c.min-shared.ensures in
    overlaid measure c.args.units.now.first c.args.units.now.many c.args.units.now.times c.args.other.now.first c.args.other.now.many c.args.other.now.times
    (c.args.other.now.first - c.args.units.now.first) c.min-shared.result
    ((c.args.units.now.many - (c.args.other.now.first - c.args.units.now.first) - c.min-shared.result) + (c.args.other.now.many - c.min-shared.result))
    c.behind_times-times.result refl c.requires.order c.requires.meet (omega (arith, is)) refl c.behind_times-times.ensures.longer c.behind_times-times.ensures.other
