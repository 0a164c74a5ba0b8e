use Rattle.planning_rules.proofs.LeastNames.{least_name_is_least}
use Rattle.planning_rules.proofs.Reach.{cyclic_is_no_level, level_is_refused, plan_is_cyclic}
use Rattle.planning_rules.proofs.laws.least_cyclic_name.Goals as goal

pub returns : goal.returns
returns c = record { least = least_name_is_least; cyclic = cyclic_is_no_level; level = level_is_refused; plan = plan_is_cyclic }
