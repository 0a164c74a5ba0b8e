use Rattle.planning_rules.proofs.AncestorLaws.{chains_are_short}
use Rattle.planning_rules.proofs.laws.short_chains.Goals as goal

pub returns : goal.returns
returns c = chains_are_short
