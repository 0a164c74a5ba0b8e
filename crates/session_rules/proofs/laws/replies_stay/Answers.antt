use Rattle.session_rules.proofs.SessionLaws.{stay}
use Rattle.session_rules.proofs.laws.replies_stay.Goals as goal

pub returns : goal.returns
returns c = stay
