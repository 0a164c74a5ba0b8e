use Rattle.plan_audit.proofs.SeenRounds.{seen_rounds_are_legal as law}
use Rattle.plan_audit.proofs.laws.seen_rounds_are_legal.Goals as goal

pub returns : goal.returns
returns c = law
