use Rattle.std.proofs.Common.{◌+◌, ◌*◌, ◌∙◌, ap, sym}
use Rattle.std.proofs.lemmas.List.Sums.{sum_by_push}
use Rattle.planning_rules.specs.Trace.{AtDemand}
use Rattle.full_pegging.specs.Following.{landed_weight, shown_share}
use Rattle.full_pegging.specs.declared.share.Share.{Share}
use Rattle.full_pegging.specs.declared.share.Share.TheVariants as shares
use Rattle.full_pegging.proofs.Waiting.{alike}
use Rattle.full_pegging.proofs.follow.land_demand.Goals as goal

pub returns : goal.returns
returns c = λ measure.
    let units = c.args.units.now in
    let part = c.args.part.now in
    ap (landed_weight measure) c.in_ok-push.ensures.items
    ∙ sum_by_push (λ (share : Share). (shown_share share).1 * measure (shown_share share).0) c.args.landed.now.items (shares.Demand part c.args.order.now (units.times * units.many))
    ∙ ap (λ w. landed_weight measure c.args.landed.now.items + w) (sym (alike (measure (AtDemand part c.args.order.now)) units.first units.many units.times))
