use Rattle.session_rules.proofs.SessionLaws.{dont_fall}
use Rattle.session_rules.proofs.laws.points_dont_fall.Goals as goal

pub returns : goal.returns
returns c = dont_fall
