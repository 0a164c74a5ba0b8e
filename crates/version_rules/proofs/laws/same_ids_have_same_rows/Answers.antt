use Rattle.version_rules.proofs.Histories as laws
use Rattle.version_rules.proofs.laws.same_ids_have_same_rows.Goals as goal

pub returns : goal.returns
returns c = laws.same_ids_have_same_rows
