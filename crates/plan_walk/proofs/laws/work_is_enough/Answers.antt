use Rattle.plan_walk.proofs.WorkEnough.{work_is_enough}
use Rattle.plan_walk.proofs.laws.work_is_enough.Goals as goal

pub returns : goal.returns
returns c = work_is_enough
