use Rattle.version_rules.proofs.Older as laws
use Rattle.version_rules.proofs.laws.next_ids_are_new.Goals as goal

pub returns : goal.returns
returns c = laws.next_ids_are_new
