use Rattle.std.proofs.Common.{◌≡◌, ◌∙◌, sym, subst, List, [], take, refl, arith}
use Rattle.std.specs.Prelude.{Some}
use Rattle.std.proofs.lemmas.Grind.{common_steps}
use Rattle.scenario_cells.specs.declared.held.Held.{Held}
use Rattle.plan_schema.specs.declared.key.Key.{Key}
use Rattle.plan_schema.specs.declared.key.Record.{Record}
use Rattle.scenario_rules.specs.World.{OwnChanges}
use Rattle.scenario_rules.specs.Steps.{all_put}
use Rattle.record_versions.specs.Versions.{cell_at}
use Rattle.scenario_cells.specs.declared.held.Loaded.{Loaded}
use Rattle.scenario_cells.specs.Held.{IsChanged}
use Rattle.scenario_cells.specs.Loads.{held_with}
use Rattle.scenario_cells.proofs.LoadLaws.{changed_then}
use Rattle.scenario_cells.proofs.RoomLaws.{puts_more}
use Rattle.scenario_cells.proofs.InPlace.{load_begun, begun_held, begun_ready, nothing_loaded, all_loaded, ready_after}
use Rattle.scenario_cells.proofs.held.changed_rows.Goals as goal

pub loop-row-init : goal.loop-row-init
loop-row-init c =
    let h = c.args.held.now in
    let root = c.args.root in
    let cells = c.args.store.now in
    let h0 = held_with root h (load_begun h) in (
      subst (λ (l : Loaded). IsChanged c.args.point root [] (cell_at cells) (cell_at cells) h0 (held_with root h l)) (sym c.in_ok-loaded.ensures) (nothing_loaded cells c.args.point h c.requires.held root c.requires.ready),
      λ id e. refl,
    )

pub loop-row-preserved : goal.loop-row-preserved
loop-row-preserved c =
    let h = c.args.held.now in
    let root = c.args.root in
    let point = c.args.point in
    let cells = c.args.store.now in
    let rows : List (Key × Record) = c.args.rows.now in
    let i = c.loop-row.row-index in
    let r : Key × Record = c.row-item.result in
    let h0 = held_with root h (load_begun h) in
    let h1 = held_with root h c.loop-row.loaded in
    let h2 = held_with root h c.load_row.new.loaded in
    let held0 = begun_held cells point h c.requires.held root c.requires.ready in
    let ready0 = begun_ready cells point h c.requires.held root c.requires.ready in
    let before = c.loop-row.invariant.0 in
    let ready1 = ready_after cells c.loop-row.store point root h0 h1 (all_put (take i rows)) ready0 before in
    let one = c.in_ok-load_row.ensures.loaded h before.held ready1 in
    let next = changed_then cells c.loop-row.store c.load_row.new.store point root h0 h1 h2 (all_put (take i rows)) r.0 (Some r.1) held0 ready0 before one in (
      subst (λ (later : OwnChanges). IsChanged point root later (cell_at cells) (cell_at c.load_row.new.store) h0 h2) (sym (puts_more rows i r c.loop-row-test.true c.row-item.is)) next,
      λ id e. c.in_ok-load_row.ensures.keeps id e ∙ c.loop-row.invariant.1 id e,
    )

pub returns-clause-changed : goal.returns-clause-changed
returns-clause-changed c =
    let h = c.args.held.now in
    let root = c.args.root in
    let cells = c.args.store.now in
    let rows : List (Key × Record) = c.args.rows.now in
    let h0 = held_with root h (load_begun h) in
    let all : take c.loop-row.row-index rows ≡ rows = grind (arith, common_steps) in
    let done = subst (λ (rs : List (Key × Record)). IsChanged c.args.point root (all_put rs) (cell_at cells) (cell_at c.loop-row.store) h0 (held_with root h c.loop-row.loaded)) all c.loop-row.invariant.0 in
    subst (λ (new : Held). IsChanged c.args.point root (all_put rows) (cell_at cells) (cell_at c.loop-row.store) h new) (sym c.in_ok-new.ensures)
    (all_loaded cells c.args.point h c.requires.held root c.requires.ready c.loop-row.store (all_put rows) (held_with root h c.loop-row.loaded) done)
