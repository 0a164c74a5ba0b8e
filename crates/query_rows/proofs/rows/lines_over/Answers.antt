use Rattle.std.proofs.Common.{◌∙◌, ap}
use Rattle.std.specs.Arc.{arc_value}
use Rattle.walk_rules.specs.Cells.{are_own_rows}
use Rattle.query_rows.proofs.RowLaws.{own_at}
use Rattle.query_rows.proofs.rows.lines_over.Goals as goal

pub add_cell-requires : goal.add_cell-requires
add_cell-requires g c =
    ap (are_own_rows c.loop-id-item.result.0.cell) c.deref.ensures
    ∙ own_at (λ entry. (entry.0, arc_value entry.1)) c.args.cells.now c.loop-id.id-index c.loop-id-item.result c.loop-id-item.result c.requires c.loop-id-test.true c.loop-id-item.is
