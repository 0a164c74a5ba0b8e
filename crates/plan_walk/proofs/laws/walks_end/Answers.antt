use Rattle.plan_walk.proofs.LevelRounds.{ends_with_levels}
use Rattle.plan_walk.proofs.Rounds.{rounds_end}
use Rattle.plan_walk.proofs.laws.walks_end.Goals as goal

pub returns-clause-rounds : goal.returns-clause-rounds
returns-clause-rounds c = rounds_end

pub returns-clause-levels : goal.returns-clause-levels
returns-clause-levels c = ends_with_levels
