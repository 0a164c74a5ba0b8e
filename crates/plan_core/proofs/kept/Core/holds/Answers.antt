use Rattle.std.proofs.Common.{subst}
use Rattle.plan_core.specs.Holds.{HoldsFor}
use Rattle.plan_core.proofs.kept.Core.holds.Goals as goal

pub returns : goal.returns
returns c = subst HoldsFor c.self.view_is c.self.invariant.holds
