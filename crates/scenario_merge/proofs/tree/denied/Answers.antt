use Rattle.std.proofs.Common.{◌∙◌, sym, ap, ◌||◌}
use Rattle.std.specs.Prelude.{not}
use Rattle.plan_schema.specs.declared.refusal.Refusal.TheVariants as refusals
use Rattle.plan_schema.specs.Refusals.{where_so}
use Rattle.scenario_rules.specs.World.{Scenario, is_owner}
use Rattle.scenario_merge.proofs.LineLaws.{scenario_of, scenario_none}
use Rattle.scenario_merge.proofs.tree.denied.Goals as goal

pub returns-in-Some : goal.returns-in-Some
returns-in-Some c = λ m.
    let s = c.args.name.now in
    let user = c.args.user.now in
    c.where_so.ensures
    ∙ ap (λ b. where_so (not b) (refusals.Denied s)) (c.may_use.ensures ∙ sym (ap (λ (x : Scenario). not x.private || is_owner x user) (scenario_of m c.args.scenarios.now.entries s c.in-Some.held.now c.in-Some.ensures.value)))

pub returns-in-None : goal.returns-in-None
returns-in-None c = λ m.
    let s = c.args.name.now in
    let user = c.args.user.now in
    sym (ap (λ (x : Scenario). where_so (not (not x.private || is_owner x user)) (refusals.Denied s)) (scenario_none m c.args.scenarios.now.entries s c.in-None.ensures.value))
