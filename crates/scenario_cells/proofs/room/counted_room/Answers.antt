use Rattle.std.proofs.Common.{sym, subst, refl, take, get_or, List, true}
use Rattle.std.specs.Prelude.{Some}
use Rattle.plan_schema.specs.declared.key.Key.{Key}
use Rattle.plan_schema.specs.declared.key.Record.{Record}
use Rattle.scenario_rules.specs.World.{OwnChanges}
use Rattle.scenario_rules.specs.Steps.{all_put}
use Rattle.scenario_cells.specs.Room.{IsTallied}
use Rattle.scenario_cells.proofs.HeldLaws.{held_contents, contents_ordered}
use Rattle.scenario_cells.proofs.RoomLaws.{tally_next, puts_more_at}
use Rattle.scenario_cells.proofs.room.counted_room.Goals as goal

pub loop-i-preserved : goal.loop-i-preserved
loop-i-preserved c =
    let cells = c.args.store.now in
    let h = c.args.held.now in
    let rows : List (Key × Record) = c.args.rows.now in
    let i = c.loop-i.i in
    let r : Key × Record = get_or rows i c.index-rows-i.result in
    subst (λ (done : OwnChanges). IsTallied (held_contents cells h) done c.tallied-tally.result) (sym (puts_more_at rows i c.index-rows-i.result c.loop-i-test.true))
    (tally_next (held_contents cells h) (all_put (take i rows)) c.loop-i.tally c.tallied-tally.result r.0 (Some r.1) c.had_before-had.result true (contents_ordered cells h) c.loop-i.invariant c.had_before-had.ensures refl c.tallied-tally.ensures)
