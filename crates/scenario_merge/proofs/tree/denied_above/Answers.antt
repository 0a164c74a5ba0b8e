use Rattle.std.proofs.Common.{◌∙◌, sym, ap}
use Rattle.plan_schema.specs.Refusals.{if_any}
use Rattle.scenario_rules.specs.World.{Scenario}
use Rattle.scenario_rules.specs.Refused.{denied}
use Rattle.scenario_merge.specs.Grown.{world_by}
use Rattle.scenario_merge.proofs.LineLaws.{scenario_of, scenario_none}
use Rattle.scenario_merge.proofs.tree.denied_above.Goals as goal

pub returns-in_default : goal.returns-in_default
returns-in_default c = λ m.
    let w = world_by m c.args.scenarios.now.entries in
    sym (ap (λ (x : Scenario). if_any x.parent (denied w c.args.user.now)) (scenario_none m c.args.scenarios.now.entries c.args.name.now c.in_default.ensures.value))

pub returns-in-Some-parent : goal.returns-in-Some-parent
returns-in-Some-parent c = λ m.
    let w = world_by m c.args.scenarios.now.entries in
    c.denied.ensures m
    ∙ sym (ap (λ (x : Scenario). if_any x.parent (denied w c.args.user.now)) (scenario_of m c.args.scenarios.now.entries c.args.name.now c.in-Some.held.now c.in-Some.ensures.value) ∙ ap (λ o. if_any o (denied w c.args.user.now)) c.in-Some-parent.is)

pub returns-in-None : goal.returns-in-None
returns-in-None c = λ m.
    let w = world_by m c.args.scenarios.now.entries in
    sym (ap (λ (x : Scenario). if_any x.parent (denied w c.args.user.now)) (scenario_of m c.args.scenarios.now.entries c.args.name.now c.in-Some.held.now c.in-Some.ensures.value) ∙ ap (λ o. if_any o (denied w c.args.user.now)) c.in-None.is)
