use Rattle.std.proofs.Common.{◌∙◌, ap, sym, subst, refl}
use Rattle.std.specs.Prelude.{is_some, Contains, option_map}
use Rattle.std.specs.List.{AllByRecursion}
use Rattle.plan_schema.specs.declared.change.CellName.TheVariants as names
use Rattle.plan_schema.specs.declared.key.Key.TheVariants as keys
use Rattle.walk_rules.specs.Cells.{records, version_in}
use Rattle.walk_rules.specs.Steps.{calendar_of}
use Rattle.plan_walk.specs.Places.{StandAt}
use Rattle.plan_jobs.proofs.Visited.{parents_here}
use Rattle.walk_names.proofs.JobCells.{held_cell, record_of}
use Rattle.plan_walk.proofs.graph.node_of.Goals as goal

pub parents_at-requires : goal.parents_at-requires
parents_at-requires c =
    let held = held_cell c.args.job.now.wanted c.args.job.now.cells (names.Part c.args.name.now) c.cell_in-cell.ensures.0 c.cell_in-cell.result.now c.requires.job c.cell_in-cell.ensures.1 in
    subst (AllByRecursion (Contains c.args.places.now)) (parents_here (records c.args.job.now.cells) c.args.name.now c.cell_in-cell.result.now held.rows_are held.own held.sound) c.requires.parents

pub calendar_version-requires : goal.calendar_version-requires
calendar_version-requires c = λ k is.
    let held = held_cell c.args.job.now.wanted c.args.job.now.cells (names.Part c.args.name.now) c.cell_in-cell.ensures.0 c.cell_in-cell.result.now c.requires.job c.cell_in-cell.ensures.1 in
    let there = c.requires.part.cells_held.calendar_held k (ap calendar_of (sym (record_of c.args.job.now.cells (keys.Part c.args.name.now) c.cell_in-cell.result.now held)) ∙ sym c.calendar_named-named.ensures ∙ is) in
    ap is_some there.2

pub returns : goal.returns
returns c =
    let held = held_cell c.args.job.now.wanted c.args.job.now.cells (names.Part c.args.name.now) c.cell_in-cell.ensures.0 c.cell_in-cell.result.now c.requires.job c.cell_in-cell.ensures.1 in
    record {
      named = refl;
      keyed = record {
        part = c.version_of.ensures;
        calendar = c.calendar_version.ensures ∙ ap (option_map (λ k. version_in c.args.job.now.cells (names.Cal k)))
            (c.calendar_named-named.ensures ∙ ap calendar_of (record_of c.args.job.now.cells (keys.Part c.args.name.now) c.cell_in-cell.result.now held));
        stand = subst (StandAt c.args.places.now c.in_ok-ups.ups.items) (sym (parents_here (records c.args.job.now.cells) c.args.name.now c.cell_in-cell.result.now held.rows_are held.own held.sound)) c.in_ok-ups.ensures;
      };
      alone = c.new.ensures.items;
    }
