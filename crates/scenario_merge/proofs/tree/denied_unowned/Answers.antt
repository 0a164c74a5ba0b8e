use Rattle.std.proofs.Common.{◌≡◌, ◌∙◌, sym, ap, ◌&&◌, false}
use Rattle.std.specs.Prelude.{not}
use Rattle.plan_schema.specs.declared.refusal.Refusal.TheVariants as refusals
use Rattle.plan_schema.specs.Refusals.{where_so}
use Rattle.scenario_rules.specs.World.{Scenario, is_owner, is_root}
use Rattle.scenario_merge.proofs.LineLaws.{scenario_of, scenario_none}
use Rattle.scenario_merge.proofs.tree.denied_unowned.Goals as goal

pub returns-in-Some : goal.returns-in-Some
returns-in-Some c = λ m.
    let s = c.args.name.now in
    let user = c.args.user.now in
    let other : is_root s ≡ false = sym c.is_root.ensures ∙ c.if-is_root.false in
    let own = c.is_name_of.ensures ∙ sym (ap (λ (x : Scenario). is_owner x user) (scenario_of m c.args.scenarios.now.entries s c.in-Some.held.now c.in-Some.ensures.value)) in
    c.where_so.ensures ∙ (λ i. where_so (not (sym other i) && not (own i)) (refusals.Denied s))

pub returns-in-None : goal.returns-in-None
returns-in-None c = λ m.
    let s = c.args.name.now in
    let user = c.args.user.now in
    let other : is_root s ≡ false = sym c.is_root.ensures ∙ c.if-is_root.false in
    λ i. where_so (not (sym other i) && not (is_owner (sym (scenario_none m c.args.scenarios.now.entries s c.in-None.ensures.value) i) user)) (refusals.Denied s)
