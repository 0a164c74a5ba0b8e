use Rattle.plan_audit.proofs.Accepted.{unrefused_is_accepted as law}
use Rattle.plan_audit.proofs.laws.unrefused_is_accepted.Goals as goal

pub returns : goal.returns
returns c = law
