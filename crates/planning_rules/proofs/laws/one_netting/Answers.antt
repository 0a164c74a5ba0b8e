use Rattle.planning_rules.proofs.NettedLaws.{one_netting_is}
use Rattle.planning_rules.proofs.laws.one_netting.Goals as goal

pub returns : goal.returns
returns c = one_netting_is
