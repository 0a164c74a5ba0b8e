use Rattle.std.proofs.Common.{sym, ap}
use Rattle.std.specs.Prelude.{is_some}
use Rattle.plan_schema.specs.declared.refusal.Refusal.TheVariants as refusals
use Rattle.plan_schema.specs.Refusals.{where_so}
use Rattle.scenario_merge.proofs.LineLaws.{scenario_at_held, scenario_gone}
use Rattle.scenario_merge.proofs.tree.taken.Goals as goal

pub returns-in-Some : goal.returns-in-Some
returns-in-Some c = λ m. sym (ap (λ o. where_so (is_some o) (refusals.Taken c.args.child.now)) (scenario_at_held m c.args.scenarios.now.entries c.args.child.now c.in-Some.field-0.now c.in-Some.ensures.value))

pub returns-in-None : goal.returns-in-None
returns-in-None c = λ m. sym (ap (λ o. where_so (is_some o) (refusals.Taken c.args.child.now)) (scenario_gone m c.args.scenarios.now.entries c.args.child.now c.in-None.ensures.value))
