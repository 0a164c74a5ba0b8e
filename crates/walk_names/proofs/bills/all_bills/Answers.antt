use Rattle.walk_names.specs.Bills.{bill_pair}
use Rattle.walk_names.proofs.Rows.{one_cell_more}
use Rattle.walk_names.proofs.bills.all_bills.Goals as goal

pub loop-id-preserved : goal.loop-id-preserved
loop-id-preserved c =
    one_cell_more bill_pair c.as_slice-cells.result.now c.loop-id._id-index c.loop-id-item.result c.loop-id-item.result c.deref.result.now c.loop-id.bills.items c.add_bills.new.bills.items
    c.loop-id-test.true c.loop-id-item.is c.deref.ensures c.loop-id.invariant c.in_ok-add_bills.ensures
