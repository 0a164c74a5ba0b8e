use Rattle.lot_sizing.proofs.LotLaws.{sound_lot}
use Rattle.std.proofs.Common.{arith, length, ◌≤◌, ◌≡◌}
use Rattle.std.proofs.lemmas.List.{length-take-le}
use Rattle.netting.proofs.Windows.{looked_left, window_order}
use Rattle.netting.proofs.step.order_of.Goals as goal

pub returns : goal.returns
returns c =
    let days = c.looked_at-days.result in
    let within : days ≤ length c.args.gross.now = omega (arith, c.looked_at-days.ensures, looked_left c.args.rule.now (length c.args.gross.now) c.requires.some) in
    let left : days ≤ length c.args.short.now = omega (arith, within, c.requires.room) in
    let room : length c.fill_short.new.short ≡ days = omega (arith, length-take-le days c.args.short.now left) in
    window_order c.args.rule.now c.args.balance c.args.safety c.lot.result days c.args.gross.now c.args.sched.now c.fill_short.new.short (sound_lot c.args.rule.now c.requires.rule) c.requires.some
    c.requires.same c.looked_at-days.ensures room c.fill_short.ensures.all c.if-safety-gross.false c.lot.ensures
