use Rattle.session_rules.proofs.SessionLaws.{grow}
use Rattle.session_rules.proofs.laws.replies_grow.Goals as goal

pub returns : goal.returns
returns c = grow
