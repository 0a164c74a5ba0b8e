use Rattle.std.proofs.Common.{◌*◌, ap, sym}
use Rattle.full_pegging.proofs.Spreading.{sums_moved}
use Rattle.full_pegging.proofs.units.moved.Goals as goal

pub returns : goal.returns
returns c = λ measure. ap (λ s. c.args.units.now.times * s) (sym (sums_moved measure c.args.before c.args.units.now.many c.args.units.now.first))
