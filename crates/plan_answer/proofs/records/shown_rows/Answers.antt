use Rattle.std.proofs.Common.{◌≡◌, map, sym, ◌∙◌, ap, subst}
use Rattle.std.specs.Prelude.{IfOk, Some, None}
use Rattle.std.specs.Option.{option_map}
use Rattle.plan_schema.specs.Contents.{Contents, cell_rows}
use Rattle.walk_rules.specs.Cells.{records, held}
use Rattle.plan_jobs.specs.Jobs.{shown_cell}
use Rattle.plan_jobs.proofs.Rows.{rows_held, rows_of, apart}
use Rattle.plan_answer.proofs.Shown.{row_line}
use Rattle.plan_answer.proofs.records.shown_rows.Goals as goal

pub returns-in-Some : goal.returns-in-Some
returns-in-Some c =
    let cells = c.args.job.now.cells in
    let there : held cells c.args.name.now ≡ Some (c.in-Some.field-0-0.now, c.in-Some.cell.now) = sym c.get.ensures ∙ ap (option_map shown_cell) c.in-Some.is in
    let same : c.in-Some.cell.now ≡ cell_rows (records cells) c.args.name.now = sym (rows_held cells c.args.name.now c.requires.own (apart cells c.requires.ascending) ∙ ap rows_of there) in
    subst (λ (rows : Contents). IfOk c.row_lines.result (λ lines. lines ≡ map row_line rows)) same c.row_lines.ensures

pub returns-in-None : goal.returns-in-None
returns-in-None c =
    let cells = c.args.job.now.cells in
    let there : held cells c.args.name.now ≡ None = sym c.get.ensures ∙ ap (option_map shown_cell) c.in-None.is in
    c.new.ensures ∙ ap (map row_line) (sym (rows_held cells c.args.name.now c.requires.own (apart cells c.requires.ascending) ∙ ap rows_of there))
