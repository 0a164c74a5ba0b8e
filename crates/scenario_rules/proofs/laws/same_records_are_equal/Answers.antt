use Rattle.scenario_rules.proofs.SameLaws.{same_is_equal}
use Rattle.scenario_rules.proofs.laws.same_records_are_equal.Goals as goal

pub returns : goal.returns
returns c = same_is_equal
