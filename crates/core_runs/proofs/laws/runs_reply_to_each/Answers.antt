use Rattle.core_runs.proofs.Joined as laws
use Rattle.core_runs.proofs.laws.runs_reply_to_each.Goals as goal

pub returns : goal.returns
returns c = laws.each_has_reply
