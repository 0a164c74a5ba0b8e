use Rattle.std.proofs.Common.{◌∙◌}
use Rattle.scenario_merge.proofs.ReadLaws.{own_is, no_own}
use Rattle.scenario_merge.proofs.forest.Forest.own_len.Goals as goal

pub returns-in-Some : goal.returns-in-Some
returns-in-Some c = c.len.ensures.len ∙ own_is c.self.inside.scenarios.entries c.self.inside.store c.args.self.now c.args.name.now c.in-Some.held.now c.self.view_is c.in-Some.ensures.value

pub returns-in-None : goal.returns-in-None
returns-in-None c = no_own c.self.inside.scenarios.entries c.self.inside.store c.args.self.now c.args.name.now c.self.view_is c.in-None.ensures.value
