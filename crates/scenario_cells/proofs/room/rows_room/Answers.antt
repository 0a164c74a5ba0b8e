use Rattle.std.proofs.Common.{◌≤◌, sym, arith, length}
use Rattle.plan_schema.specs.Base.{part_count}
use Rattle.scenario_rules.specs.World.{laid_over}
use Rattle.scenario_rules.specs.Steps.{all_put}
use Rattle.scenario_cells.proofs.HeldLaws.{held_contents, contents_ordered}
use Rattle.scenario_cells.proofs.RoomLaws.{rows_bound, parts_bound, puts_length, within}
use Rattle.scenario_cells.proofs.room.rows_room.Goals as goal

pub returns-then-fits : goal.returns-then-fits
returns-then-fits c =
    let cells = c.args.store.now in
    let h = c.args.held.now in
    let a = held_contents cells h in
    let later = all_put c.args.rows.now in
    let o = contents_ordered cells h in
    let parts : part_count (laid_over a later) ≤ 10_000 = omega (arith, parts_bound a c.args.rows.now o, c.part_rows.ensures, c.requires.held.parts, c.fits.ensures.parts c.if-fits.true) in
    let records : length (laid_over a later) ≤ 200_000 = omega (arith, rows_bound a later o, puts_length c.args.rows.now, c.requires.held.records, c.fits.ensures.records c.if-fits.true) in
    sym (within (part_count (laid_over a later)) (length (laid_over a later)) parts records)
