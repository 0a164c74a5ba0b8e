use Rattle.std.proofs.Common.{arith}
use Rattle.version_reclaim.proofs.LiveLaws.{row_of, there_at, one_collected, all_collected, live_as}
use Rattle.version_reclaim.proofs.collect.live.Goals as goal

pub put_scenario-requires : goal.put_scenario-requires
put_scenario-requires c =
    let row = row_of c.args.forest.now.world c.loop-place.place c.in-Some.row c.in-Some.ensures in
    record {
      there = there_at c.args.forest.now.world c.loop-place.place c.in-Some.row.name row.0 row.1;
      beside = c.loop-place.invariant.1;
    }

pub loop-place-preserved : goal.loop-place-preserved
loop-place-preserved c =
    let row = row_of c.args.forest.now.world c.loop-place.place c.in-Some.row c.in-Some.ensures in (
      one_collected c.args.forest.now c.loop-place.place c.loop-place.live.items c.put_scenario.new.live.items c.in-Some.row.name row.0 row.1 c.loop-place.invariant.0 c.in_ok-beside.ensures.ids,
      c.in_ok-beside.ensures.contents,
    )

pub returns : goal.returns
returns c = live_as c.args.forest.now c.loop-place.live.items c.of.result c.of.ensures (all_collected c.args.forest.now c.loop-place.place c.loop-place.live.items (omega arith) c.loop-place.invariant.0)
