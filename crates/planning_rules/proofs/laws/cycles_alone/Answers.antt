use Rattle.planning_rules.proofs.LevelLaws.{no_level_is_cyclic, cyclic_has_no_level}
use Rattle.planning_rules.proofs.Planned.{no_level_is_no_plan}
use Rattle.planning_rules.proofs.laws.cycles_alone.Goals as goal

pub returns : goal.returns
returns c = record { cycle = no_level_is_cyclic; none = cyclic_has_no_level; plan = no_level_is_no_plan }
