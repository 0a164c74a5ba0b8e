use Rattle.query_rules.proofs.Selecting.{all_are_selected, each_has_its_values, either_or_not}
use Rattle.query_rules.proofs.laws.selected_parts.Goals as goal

pub returns-clause-all : goal.returns-clause-all
returns-clause-all c = all_are_selected

pub returns-clause-values : goal.returns-clause-values
returns-clause-values c = each_has_its_values

pub returns-clause-rest : goal.returns-clause-rest
returns-clause-rest c = either_or_not
