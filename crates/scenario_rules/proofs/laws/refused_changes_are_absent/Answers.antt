use Rattle.scenario_rules.proofs.HistoryLaws.{refused_is_absent}
use Rattle.scenario_rules.proofs.laws.refused_changes_are_absent.Goals as goal

pub returns : goal.returns
returns c = refused_is_absent
