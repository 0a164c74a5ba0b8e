use Rattle.scenario_rules.proofs.StepLaws.{commit_joins, commit_keeps_others}
use Rattle.scenario_rules.proofs.laws.commits_join.Goals as goal

pub returns : goal.returns
returns c = record { equal = commit_joins; others = commit_keeps_others }
