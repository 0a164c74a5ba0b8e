use Rattle.query_language.proofs.Faults.{fault_is_first}
use Rattle.query_language.proofs.laws.faults_are_first.Goals as goal

pub returns : goal.returns
returns c = fault_is_first
