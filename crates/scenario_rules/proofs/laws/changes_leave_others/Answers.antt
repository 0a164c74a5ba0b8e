use Rattle.scenario_rules.proofs.StepLaws.{step_leaves_others}
use Rattle.scenario_rules.proofs.laws.changes_leave_others.Goals as goal

pub returns : goal.returns
returns c = step_leaves_others
