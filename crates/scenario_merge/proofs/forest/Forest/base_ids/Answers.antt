use Rattle.std.specs.Prelude.{Some, None}
use Rattle.scenario_merge.proofs.ReadLaws.{is_there, base_ids_are}
use Rattle.scenario_merge.proofs.forest.Forest.base_ids.Goals as goal

pub returns-in-Some-clause-there : goal.returns-in-Some-clause-there
returns-in-Some-clause-there c = is_there c.self.inside.scenarios.entries c.self.inside.store c.args.self.now c.args.name.now (Some c.in-Some.held.now) c.self.view_is c.in-Some.ensures.value

pub returns-in-Some-clause-ids : goal.returns-in-Some-clause-ids
returns-in-Some-clause-ids c = base_ids_are c.self.inside.scenarios.entries c.self.inside.store c.args.self.now c.args.name.now c.in-Some.held.now c.self.view_is c.in-Some.ensures.value

pub returns-in-None-clause-there : goal.returns-in-None-clause-there
returns-in-None-clause-there c = is_there c.self.inside.scenarios.entries c.self.inside.store c.args.self.now c.args.name.now None c.self.view_is c.in-None.ensures.value
