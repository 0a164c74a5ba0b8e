use Rattle.std.proofs.Common.{◌≡◌, ◌∙◌, sym, ap, false, true}
use Rattle.std.specs.Prelude.{is_some}
use Rattle.scenario_rules.specs.World.{Scenario, contents_of, laid_over}
use Rattle.scenario_rules.specs.Steps.{all_put}
use Rattle.record_versions.specs.Versions.{cell_at}
use Rattle.version_rules.proofs.StepMeans.{contents_after}
use Rattle.scenario_merge.specs.Grown.{world_by}
use Rattle.scenario_cells.specs.Room.{refused_contents}
use Rattle.scenario_merge.proofs.LineLaws.{scenario_of, scenario_gone, limits_held}
use Rattle.scenario_merge.proofs.refusals.room_for_rows.Goals as goal

pub rows_room-requires-clause-held : goal.rows_room-requires-clause-held
rows_room-requires-clause-held c = c.requires.forest.held c.args.name.now c.in-Some.held.now (sym c.in-Some.ensures.value)

pub rows_room-requires-clause-limits : goal.rows_room-requires-clause-limits
rows_room-requires-clause-limits c = limits_held c.args.scenarios.now.entries c.args.store.now c.requires.forest c.args.name.now c.in-Some.held.now c.in-Some.ensures.value

pub returns-in-Some : goal.returns-in-Some
returns-in-Some c =
    let m = cell_at c.args.store.now in
    let w = world_by m c.args.scenarios.now.entries in
    let later = all_put c.args.rows.now in
    c.rows_room.ensures
    ∙ sym (ap refused_contents (contents_after w c.args.name.now later c.requires.forest.whole c.requires.there ∙ ap (λ (x : Scenario). laid_over (contents_of x) later) (scenario_of m c.args.scenarios.now.entries c.args.name.now c.in-Some.held.now c.in-Some.ensures.value)))

pub returns-in-None : goal.returns-in-None
returns-in-None c =
    let gone = scenario_gone (cell_at c.args.store.now) c.args.scenarios.now.entries c.args.name.now c.in-None.ensures.value in
    absurd (let no : ⊥ = (let wrong : false ≡ true = sym (ap is_some gone) ∙ c.requires.there in cc) in no)
