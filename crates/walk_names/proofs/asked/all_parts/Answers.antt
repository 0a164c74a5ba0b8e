use Rattle.query_rules.specs.Queries.{part_in}
use Rattle.walk_names.proofs.Rows.{one_cell_more}
use Rattle.walk_names.proofs.asked.all_parts.Goals as goal

pub loop-id-preserved : goal.loop-id-preserved
loop-id-preserved c =
    one_cell_more part_in c.as_slice-cells.result.now c.loop-id._id-index c.loop-id-item.result c.loop-id-item.result c.deref.result.now c.loop-id.names.items c.add_parts.new.names.items
    c.loop-id-test.true c.loop-id-item.is c.deref.ensures c.loop-id.invariant c.in_ok-add_parts.ensures
