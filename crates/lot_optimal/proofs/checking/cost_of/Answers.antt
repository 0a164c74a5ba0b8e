use Rattle.std.proofs.Common.{arith}
use Rattle.lot_optimal.proofs.RowLaws.{waits_step, orders_step}
use Rattle.lot_optimal.proofs.checking.cost_of.Goals as goal
use Rattle.lot_optimal.proofs.checking.cost_of.Goals.{then-row-eq0, else-row-eq0}

pub loop-row-preserved : goal.loop-row-preserved
loop-row-preserved c =
    let so_far = c.loop-row.invariant.so_far in
    let within = c.loop-row-test.true in
    elim c.if-row-eq0.branch [
      | then-row-eq0 w ↦
          let step = waits_step c.args.setup c.args.hold c.loop-row.last c.loop-row.row-index c.args.rows.now within w.if-row-eq0.true in
          record {
            so_far = rw (w.cost-is, w.last-is, w.waiting-cost.ensures.is, w.saturating_sub.ensures) (omega arith);
            small = let small = c.loop-row.invariant.small in omega arith;
          }
      | else-row-eq0 w ↦
          let some = w.if-row-eq0.false in
          let step = orders_step c.args.setup c.args.hold c.loop-row.last c.loop-row.row-index c.args.rows.now within (omega arith) in
          record {
            so_far = rw (w.cost-is, w.last-is) (omega arith);
            small = let small = c.loop-row.invariant.small in omega arith;
          }
    ]
