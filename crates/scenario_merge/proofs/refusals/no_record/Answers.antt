use Rattle.std.proofs.Common.{◌∙◌, sym, ap}
use Rattle.std.specs.Prelude.{is_none}
use Rattle.plan_schema.specs.declared.refusal.Refusal.TheVariants as refusals
use Rattle.plan_schema.specs.Refusals.{where_so}
use Rattle.plan_schema.specs.Contents.{record_at}
use Rattle.scenario_rules.specs.World.{Scenario, contents_of}
use Rattle.record_versions.specs.Versions.{cell_at}
use Rattle.scenario_cells.proofs.HeldLaws.{record_is}
use Rattle.scenario_merge.proofs.LineLaws.{scenario_of, scenario_none, none_is}
use Rattle.scenario_merge.proofs.refusals.no_record.Goals as goal

pub returns-in-Some : goal.returns-in-Some
returns-in-Some c =
    let s = c.args.name.now in
    let h = c.in-Some.held.now in
    let cells = c.args.store.now in
    let entries = c.args.scenarios.now.entries in
    let key = c.args.key.now in
    let held = c.requires.held s h (sym c.in-Some.ensures.value) in
    c.where_so.ensures
    ∙ ap (λ b. where_so b (refusals.NoRecord key)) (
    none_is c.is_none.result c.row.result (sym c.is_none.ensures) ∙ ap is_none (c.row.ensures ∙ record_is cells h key held)
    ∙ sym (ap (λ (x : Scenario). is_none (record_at (contents_of x) key)) (scenario_of (cell_at cells) entries s h c.in-Some.ensures.value))
    )

pub returns-in-None : goal.returns-in-None
returns-in-None c =
    sym (ap (λ (x : Scenario). where_so (is_none (record_at (contents_of x) c.args.key.now)) (refusals.NoRecord c.args.key.now)) (scenario_none (cell_at c.args.store.now) c.args.scenarios.now.entries c.args.name.now c.in-None.ensures.value))
