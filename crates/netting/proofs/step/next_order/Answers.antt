use Rattle.std.proofs.Common.{length, sum}
use Rattle.netting.specs.Inputs.{given}
use Rattle.netting.proofs.NetLaws.{listed_order, order_told, shifted_order}
use Rattle.netting.proofs.step.next_order.Goals as goal

pub returns-in-Best : goal.returns-in-Best
returns-in-Best c = listed_order (given c.args.input.now) c.in-Best.setup c.in-Best.hold (length c.args.planned.now) c.args.planned.now c.args.orders.now c.in-Best.is c.requires.orders c.requires.day c.requires.going.orders

pub returns : goal.returns
returns c =
    let x = given c.args.input.now in
    let t = length c.args.planned.now in
    shifted_order x (sum c.args.planned.now) t c.args.balance c.order_of.result c.requires.going.balanced
    (order_told x t c.args.balance c.order_of.result c.as_slice.result.now c.as_slice-2.result.now c.as_slice.ensures c.as_slice-2.ensures c.order_of.ensures)
