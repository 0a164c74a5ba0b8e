use Rattle.plan_audit.proofs.LegalRuns.{judged_legal_is_legal as law}
use Rattle.plan_audit.proofs.laws.judged_legal_is_legal.Goals as goal

pub returns : goal.returns
returns c = law
