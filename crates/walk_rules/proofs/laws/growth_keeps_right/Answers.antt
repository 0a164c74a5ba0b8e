use Rattle.walk_rules.proofs.Growth.{growth_keeps_memo, growth_keeps_cells}
use Rattle.walk_rules.proofs.laws.growth_keeps_right.Goals as goal

pub returns : goal.returns
returns c = record { memo = growth_keeps_memo; cells = growth_keeps_cells }
