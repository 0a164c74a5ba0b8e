use Rattle.low_level_codes.specs.Levels.{AreLevels}
use Rattle.low_level_codes.proofs.Outcomes.{if_ok}
use Rattle.low_level_codes.proofs.codes.levels.Goals as goal

pub returns-clause-levels : goal.returns-clause-levels
returns-clause-levels c = if_ok c.levels_in.result _ (λ levels. AreLevels c.args.bills.now c.args.names.now levels.items) (λ levels all. all c.args.bills.now c.in_ok-graph.ensures) c.levels_in.ensures.levels
