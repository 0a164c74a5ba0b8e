use Rattle.scenario_rules.proofs.StepLaws.{update_shows_parent}
use Rattle.scenario_rules.proofs.laws.updates_show_parents.Goals as goal

pub returns : goal.returns
returns c = update_shows_parent
