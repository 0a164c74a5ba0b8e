use Rattle.std.proofs.Common.{◌∙◌, sym, subst, ap}
use Rattle.plan_schema.specs.declared.change.CellName.{CellName}
use Rattle.walk_rules.specs.Cells.{held}
use Rattle.walk_names.proofs.JobCells.{HeldCell, held_cell, record_of, no_record}
use Rattle.walk_names.proofs.refusals.record_in.Goals as goal

pub returns-in-Some : goal.returns-in-Some
returns-in-Some c =
    let rows = c.in-Some.cell.now in
    c.get.ensures
    ∙ record_of c.args.job.now.cells c.args.key.now rows
    (subst (λ (name : CellName). HeldCell c.args.job.now.cells name rows) c.requires.cell (held_cell c.args.job.now.wanted c.args.job.now.cells c.args.cell.now c.in-Some._id.now rows c.requires.job (sym c.in-Some.ensures)))

pub returns-in-None : goal.returns-in-None
returns-in-None c =
    sym (no_record c.args.job.now.wanted c.args.job.now.cells c.args.key.now c.requires.job (ap (held c.args.job.now.cells) (sym c.requires.cell) ∙ sym c.in-None.ensures))
