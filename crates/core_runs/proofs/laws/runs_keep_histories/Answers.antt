use Rattle.core_runs.proofs.Joined as laws
use Rattle.core_runs.proofs.laws.runs_keep_histories.Goals as goal

pub returns : goal.returns
returns c = laws.histories_are_kept
