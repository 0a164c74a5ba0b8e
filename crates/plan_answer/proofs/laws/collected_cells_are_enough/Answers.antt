use Rattle.plan_answer.proofs.Collected.{collected_is_enough}
use Rattle.plan_answer.proofs.laws.collected_cells_are_enough.Goals as goal

pub returns : goal.returns
returns c = collected_is_enough
