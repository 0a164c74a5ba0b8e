use Rattle.core_runs.proofs.Joined as laws
use Rattle.core_runs.proofs.laws.runs_go_on.Goals as goal

pub returns : goal.returns
returns c = laws.runs_go_on
