use Rattle.walk_rules.proofs.WorkLaws.{settling_works, goes_on, ends}
use Rattle.walk_rules.proofs.laws.work_is_by_rounds.Goals as goal

pub returns : goal.returns
returns c = record { settling = settling_works; on = goes_on; ends = ends }
