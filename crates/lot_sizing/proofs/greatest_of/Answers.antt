use Rattle.std.proofs.Common.{◌≡◌, map, take}
use Rattle.planning_rules.specs.Amounts.{greatest}
use Rattle.planning_rules.specs.Shortages.{shortage}
use Rattle.lot_sizing.proofs.LotLaws.{greatest_more}
use Rattle.lot_sizing.proofs.greatest_of.Goals as goal

pub loop-s-preserved : goal.loop-s-preserved
loop-s-preserved c =
    let more = greatest_more c.args.short.now c.loop-s.s-index c.loop-s-test.true in
    let so_far : c.loop-s.best ≡ greatest (map shortage (take c.loop-s.s-index c.args.short.now)) = c.loop-s.invariant in
    let best = c.max-best.ensures in
    let one = c.shortage_of.ensures in
    rw (more, ← so_far, ← one) best
