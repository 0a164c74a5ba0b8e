use Rattle.scenario_rules.proofs.Wholeness.{whole_contents}
use Rattle.scenario_rules.proofs.StepLaws.{step_keeps_whole}
use Rattle.scenario_rules.proofs.HistoryLaws.{legal_is_whole}
use Rattle.scenario_rules.proofs.laws.legal_worlds_are_whole.Goals as goal

pub returns : goal.returns
returns c = record { step = step_keeps_whole; history = legal_is_whole; contents = whole_contents }
