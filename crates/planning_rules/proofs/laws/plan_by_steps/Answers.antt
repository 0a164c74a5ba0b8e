use Rattle.planning_rules.proofs.PlanLaws.{plan_is_step, walk_is_plan}
use Rattle.planning_rules.proofs.laws.plan_by_steps.Goals as goal

pub returns : goal.returns
returns c = record { step = plan_is_step; walk = walk_is_plan }
