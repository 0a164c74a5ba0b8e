use Rattle.std.proofs.Common.{◌∙◌, sym, ap}
use Rattle.std.specs.Prelude.{map}
use Rattle.plan_schema.specs.Refusals.{first_of}
use Rattle.scenario_rules.specs.World.{OwnChanges, Scenario, contents_in, parent_of}
use Rattle.scenario_rules.specs.Refused.{conflict_at}
use Rattle.record_versions.specs.Versions.{cell_at}
use Rattle.scenario_cells.specs.Held.{scenario_by}
use Rattle.scenario_merge.specs.Grown.{world_by}
use Rattle.scenario_merge.proofs.LineLaws.{scenario_of, scenario_none, no_own_changes, parent_held, conflict_is}
use Rattle.scenario_merge.proofs.refusals.conflict.Goals as goal

pub returns-in_default : goal.returns-in_default
returns-in_default c =
    let w = world_by (cell_at c.args.store.now) c.args.scenarios.now.entries in
    sym (ap (λ (x : Scenario). first_of (map (conflict_at (contents_in w (parent_of x)) x.base) x.own)) (scenario_none (cell_at c.args.store.now) c.args.scenarios.now.entries c.args.name.now c.in_default.ensures.value))

pub returns-in_default-parent : goal.returns-in_default-parent
returns-in_default-parent c =
    let m = cell_at c.args.store.now in
    let entries = c.args.scenarios.now.entries in
    let w = world_by m entries in
    let x = scenario_by m c.in-Some.child.now in
    sym (ap (λ (x : Scenario). first_of (map (conflict_at (contents_in w (parent_of x)) x.base) x.own)) (scenario_of m entries c.args.name.now c.in-Some.child.now c.in-Some.ensures.value)
    ∙ ap (λ (own : OwnChanges). first_of (map (conflict_at (contents_in w (parent_of x)) x.base) own)) (no_own_changes entries c.args.store.now c.requires c.args.name.now c.in-Some.child.now c.in-Some.ensures.value c.in_default-parent.is))

pub returns-in_default-get : goal.returns-in_default-get
returns-in_default-get c = parent_held c.args.scenarios.now.entries c.args.store.now c.requires c.args.name.now c.in-Some.child.now c.in-Some.ensures.value c.in-Some-parent.parent c.in-Some-parent.is c.in_default-get.ensures.value

pub conflict-requires-clause-above : goal.conflict-requires-clause-above
conflict-requires-clause-above c = c.requires.held c.in-Some-parent.parent c.in-Some-get.above.now (sym c.in-Some-get.ensures.value)

pub conflict-requires-clause-child : goal.conflict-requires-clause-child
conflict-requires-clause-child c = c.requires.held c.args.name.now c.in-Some.child.now (sym c.in-Some.ensures.value)

pub returns : goal.returns
returns c =
    c.conflict.ensures
    ∙ sym (conflict_is c.args.scenarios.now.entries c.args.store.now c.requires c.args.name.now c.in-Some.child.now c.in-Some.ensures.value c.in-Some-parent.parent c.in-Some-get.above.now c.in-Some-parent.is c.in-Some-get.ensures.value)
