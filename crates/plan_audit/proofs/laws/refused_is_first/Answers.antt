use Rattle.plan_audit.proofs.Accepted.{refused_is_first as law}
use Rattle.plan_audit.proofs.laws.refused_is_first.Goals as goal

pub returns : goal.returns
returns c = law
