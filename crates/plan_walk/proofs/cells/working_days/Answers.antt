use Rattle.std.proofs.Common.{◌∙◌, ap, sym, true}
use Rattle.std.specs.Prelude.{replicate, is_some}
use Rattle.plan_schema.specs.declared.change.CellName.TheVariants as names
use Rattle.plan_schema.specs.declared.key.Key.TheVariants as keys
use Rattle.planning_rules.specs.Days.{works}
use Rattle.planning_rules.specs.Plan.{has_calendar}
use Rattle.walk_rules.specs.Cells.{records}
use Rattle.part_steps.specs.Steps.{calendar_by}
use Rattle.part_steps.proofs.Days.{every_day}
use Rattle.part_steps.proofs.Local.{works_from_cell}
use Rattle.walk_names.proofs.JobCells.{held_cell, cell_there, record_of}
use Rattle.plan_walk.proofs.cells.working_days.Goals as goal

pub cell_in-cell-requires : goal.cell_in-cell-requires
cell_in-cell-requires c =
    cell_there c.args.job.now.wanted c.args.job.now.cells (keys.Cal c.in-Some.name) c.requires.job (ap (has_calendar (records c.args.job.now.cells)) (sym c.in-Some.is) ∙ c.requires.there)

pub calendar-requires-clause-sound : goal.calendar-requires-clause-sound
calendar-requires-clause-sound c =
    (held_cell c.args.job.now.wanted c.args.job.now.cells (names.Cal c.in-Some.name) c.cell_in-cell.ensures.0 c.cell_in-cell.result.now c.requires.job c.cell_in-cell.ensures.1).sound

pub calendar-requires-clause-there : goal.calendar-requires-clause-there
calendar-requires-clause-there c =
    let held = held_cell c.args.job.now.wanted c.args.job.now.cells (names.Cal c.in-Some.name) c.cell_in-cell.ensures.0 c.cell_in-cell.result.now c.requires.job c.cell_in-cell.ensures.1 in
    ap is_some (record_of c.args.job.now.cells (keys.Cal c.in-Some.name) c.cell_in-cell.result.now held) ∙ ap (has_calendar (records c.args.job.now.cells)) (sym c.in-Some.is) ∙ c.requires.there

pub returns-in-None : goal.returns-in-None
returns-in-None c =
    c.every.ensures ∙ ap (λ d. replicate d true) c.requires.days ∙ every_day (records c.args.job.now.cells) ∙ ap (works (records c.args.job.now.cells)) (sym c.in-None.is)

pub returns-in_ok-working-in-Some : goal.returns-in_ok-working-in-Some
returns-in_ok-working-in-Some c =
    let held = held_cell c.args.job.now.wanted c.args.job.now.cells (names.Cal c.in-Some.name) c.cell_in-cell.ensures.0 c.cell_in-cell.result.now c.requires.job c.cell_in-cell.ensures.1 in
    c.in_ok-working-in-Some.ensures ∙ (λ i. calendar_by (sym held.rows_are i) c.in-Some.name (c.requires.start i) (c.requires.days i)) ∙ works_from_cell (records c.args.job.now.cells) c.in-Some.name
    ∙ ap (works (records c.args.job.now.cells)) (sym c.in-Some.is)
