use Rattle.plan_core.proofs.kept.fn.Core.reclaim.reclaim.Goals as goal

pub returns : goal.returns
returns c = c.stands_on.ensures
