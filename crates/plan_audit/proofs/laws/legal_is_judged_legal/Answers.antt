use Rattle.plan_audit.proofs.SoundRuns.{legal_is_judged_legal as law}
use Rattle.plan_audit.proofs.laws.legal_is_judged_legal.Goals as goal

pub returns : goal.returns
returns c = law
