use Rattle.std.proofs.Common.{◌≡◌, sym, ◌∙◌, ap}
use Rattle.std.specs.Prelude.{Some}
use Rattle.std.specs.Option.{option_map, option_copied}
use Rattle.plan_schema.specs.declared.change.CellName.TheVariants as names
use Rattle.walk_rules.specs.Cells.{held}
use Rattle.plan_jobs.specs.Jobs.{shown_cell}
use Rattle.part_pegs.proofs.Horizons.{row_there, row_of_all, row_sound}
use Rattle.part_pegs.proofs.planned.plan_record.Goals as goal

pub unreachable-requires-in_default-get : goal.unreachable-requires-in_default-get
unreachable-requires-in_default-get c =
    let cells = c.args.job.now.cells in
    let is : held cells names.Plan ≡ Some (c.in-Some._id.now, c.in-Some.cell.now) = sym c.get.ensures ∙ ap (option_map shown_cell) c.in-Some.is in
    row_there c.args.job.now.wanted cells c.requires.job c.in-Some._id.now c.in-Some.cell.now is (sym c.get-2.ensures ∙ ap option_copied c.in_default-get.is)

pub returns-clause-value : goal.returns-clause-value
returns-clause-value c =
    let cells = c.args.job.now.cells in
    let is : held cells names.Plan ≡ Some (c.in-Some._id.now, c.in-Some.cell.now) = sym c.get.ensures ∙ ap (option_map shown_cell) c.in-Some.is in
    row_of_all c.args.job.now.wanted cells c.requires.job c.in-Some._id.now c.in-Some.cell.now is c.in-Some-get.record.now (sym c.get-2.ensures ∙ ap option_copied c.in-Some-get.is)

pub returns-clause-sound : goal.returns-clause-sound
returns-clause-sound c =
    let cells = c.args.job.now.cells in
    let is : held cells names.Plan ≡ Some (c.in-Some._id.now, c.in-Some.cell.now) = sym c.get.ensures ∙ ap (option_map shown_cell) c.in-Some.is in
    row_sound c.args.job.now.wanted cells c.requires.job c.in-Some._id.now c.in-Some.cell.now is c.in-Some-get.record.now (sym c.get-2.ensures ∙ ap option_copied c.in-Some-get.is)
