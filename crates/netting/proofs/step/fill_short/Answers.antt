use Rattle.std.proofs.Common.{arith, length, ◌≡◌}
use Rattle.netting.proofs.NetLaws.{shortages_all}
use Rattle.netting.proofs.step.fill_short.Goals as goal

pub returns-clause-all : goal.returns-clause-all
returns-clause-all c =
    let same : length c.loop-day.short ≡ length c.args.gross.now = omega arith in
    shortages_all c.loop-day.short c.args.balance c.args.safety c.args.gross.now c.args.sched.now same (λ k h. c.loop-day.invariant.filled k (omega arith))

pub returns-clause-reach : goal.returns-clause-reach
returns-clause-reach c = λ k d h. c.loop-day.invariant.reach k d (omega arith)
