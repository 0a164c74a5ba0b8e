use Rattle.std.proofs.Common.{sym, ◌∙◌}
use Rattle.plan_make.proofs.Days.{first_is}
use Rattle.plan_make.proofs.base.first_day.Goals as goal

pub unreachable-requires : goal.unreachable-requires
unreachable-requires c = let told = sym c.in-Err.is ∙ c.read.ensures ∙ first_is in cc

pub returns : goal.returns
returns c = let told = sym c.in-Ok.is ∙ c.read.ensures ∙ first_is in cc
