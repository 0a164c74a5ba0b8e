use Rattle.std.proofs.Common.{◌≡◌, ◌∙◌, sym, ap, suc, ◌-◌, add-one, arith}
use Rattle.std.specs.Prelude.{Option}
use Rattle.plan_schema.specs.declared.name.Name.{Name}
use Rattle.scenario_rules.specs.World.{Scenario, World, count_above}
use Rattle.scenario_merge.specs.Grown.{world_by}
use Rattle.scenario_merge.proofs.LineLaws.{scenario_of, scenario_none, one_above, none_above}
use Rattle.scenario_merge.proofs.tree.+count_above.Goals as goal

pub returns-in-Some-get-clause-count : goal.returns-in-Some-get-clause-count
returns-in-Some-get-clause-count t c = λ m.
    let entries = c.args.scenarios.now.entries in
    let w : World = world_by m entries in
    let most = c.args.most in
    let pred : most ≡ suc (most - 1) = omega (arith, c.if-most-eq0.false) in
    add-one c.count_above.result
    ∙ ap suc (c.count_above.ensures.count m)
    ∙ sym (ap (λ (o : Option Name). count_above most w o) c.in-Some.is ∙ one_above (most - 1) most w c.in-Some.parent pred
    ∙ ap (λ (x : Scenario). suc (count_above (most - 1) w x.parent)) (scenario_of m entries c.in-Some.parent c.in-Some-get.held.now c.in-Some-get.ensures.value))

pub returns-in-None-clause-count : goal.returns-in-None-clause-count
returns-in-None-clause-count t c = λ m.
    let entries = c.args.scenarios.now.entries in
    let w : World = world_by m entries in
    let most = c.args.most in
    let pred : most ≡ suc (most - 1) = omega (arith, c.if-most-eq0.false) in
    sym (ap (λ (o : Option Name). count_above most w o) c.in-Some.is ∙ one_above (most - 1) most w c.in-Some.parent pred
    ∙ ap (λ (x : Scenario). suc (count_above (most - 1) w x.parent)) (scenario_none m entries c.in-Some.parent c.in-None.ensures.value) ∙ ap suc (none_above (most - 1) w))
