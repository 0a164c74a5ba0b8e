use Rattle.walk_rules.proofs.WorkLaws.{not_ready, none_ready}
use Rattle.walk_rules.proofs.laws.walks_end_settled.Goals as goal

pub returns : goal.returns
returns c = record { settled = not_ready; ended = none_ready }
