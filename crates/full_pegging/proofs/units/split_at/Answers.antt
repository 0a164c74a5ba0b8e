use Rattle.std.proofs.Common.{arith}
use Rattle.full_pegging.proofs.Spreading.{split_weight}
use Rattle.full_pegging.proofs.units.split_at.Goals as goal

pub returns-clause-weight : goal.returns-clause-weight
returns-clause-weight c = λ measure.
    let is = c.count_below-below.ensures in
    split_weight measure c.args.units.now.first c.args.units.now.many c.args.units.now.times c.count_below-below.result (omega (arith, is))
