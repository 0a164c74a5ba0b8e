use Rattle.plan_audit.proofs.SeenSessions.{seen_session_is_legal as law}
use Rattle.plan_audit.proofs.laws.seen_session_is_legal.Goals as goal

pub returns : goal.returns
returns c = law
