use Rattle.std.proofs.Common.{◌≡◌, ◌∙◌, sym, ap, false, true}
use Rattle.std.specs.Prelude.{is_some}
use Rattle.scenario_rules.specs.World.{laid_over}
use Rattle.record_versions.specs.Versions.{cell_at}
use Rattle.scenario_cells.specs.Room.{refused_contents}
use Rattle.scenario_merge.proofs.LineLaws.{scenario_of, scenario_gone, limits_held, no_parent, parent_held, contents_above_are}
use Rattle.scenario_merge.proofs.refusals.room_for_own.Goals as goal

pub returns-in_default : goal.returns-in_default
returns-in_default c =
    let gone = scenario_gone (cell_at c.args.store.now) c.args.scenarios.now.entries c.args.name.now c.in_default.ensures.value in
    absurd (let no : ⊥ = (let wrong : false ≡ true = sym (ap is_some gone) ∙ c.requires.there in cc) in no)

pub returns-in_default-parent : goal.returns-in_default-parent
returns-in_default-parent c = no_parent c.args.scenarios.now.entries c.args.store.now c.requires.forest c.args.name.now c.in-Some.child.now c.in-Some.ensures.value c.requires.other c.in_default-parent.is

pub returns-in_default-get : goal.returns-in_default-get
returns-in_default-get c = parent_held c.args.scenarios.now.entries c.args.store.now c.requires.forest c.args.name.now c.in-Some.child.now c.in-Some.ensures.value c.in-Some-parent.parent c.in-Some-parent.is c.in_default-get.ensures.value

pub own_room-requires-clause-above : goal.own_room-requires-clause-above
own_room-requires-clause-above c = c.requires.forest.held c.in-Some-parent.parent c.in-Some-get.above.now (sym c.in-Some-get.ensures.value)

pub own_room-requires-clause-limits : goal.own_room-requires-clause-limits
own_room-requires-clause-limits c = limits_held c.args.scenarios.now.entries c.args.store.now c.requires.forest c.in-Some-parent.parent c.in-Some-get.above.now c.in-Some-get.ensures.value

pub own_room-requires-clause-own : goal.own_room-requires-clause-own
own_room-requires-clause-own c = (c.requires.forest.held c.args.name.now c.in-Some.child.now (sym c.in-Some.ensures.value)).own_ordered

pub returns : goal.returns
returns c =
    c.own_room.ensures
    ∙ (λ i. refused_contents (laid_over
    (sym (contents_above_are c.args.scenarios.now.entries c.args.store.now c.requires.forest c.args.name.now c.in-Some.child.now c.in-Some.ensures.value c.in-Some-parent.parent c.in-Some-get.above.now c.in-Some-parent.is c.in-Some-get.ensures.value) i)
    (sym (scenario_of (cell_at c.args.store.now) c.args.scenarios.now.entries c.args.name.now c.in-Some.child.now c.in-Some.ensures.value) i).own))
