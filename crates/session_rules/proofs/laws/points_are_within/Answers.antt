use Rattle.session_rules.proofs.SessionLaws.{are_within}
use Rattle.session_rules.proofs.laws.points_are_within.Goals as goal

pub returns : goal.returns
returns c = are_within
