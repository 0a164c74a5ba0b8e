use Rattle.scenario_rules.proofs.StepLaws.{drop_is_gone, drop_leaves_others}
use Rattle.scenario_rules.proofs.laws.drops_leave_others.Goals as goal

pub returns : goal.returns
returns c = record { gone = drop_is_gone; others = drop_leaves_others }
