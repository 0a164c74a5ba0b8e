use Rattle.planning_rules.proofs.PegLaws.{pegs_are_gross}
use Rattle.planning_rules.proofs.laws.pegs_are_gross.Goals as goal

pub returns : goal.returns
returns c = pegs_are_gross
