use Rattle.std.proofs.Common.{◌+◌, ◌++◌, drop, get_or, sym, ◌∙◌, ap, arith}
use Rattle.lot_optimal.specs.Costs.{rows_of}
use Rattle.lot_optimal.proofs.MadeLaws.{row_pushed, rows_none, rows_some}
use Rattle.lot_optimal.proofs.making.rows_made.Goals as goal
use Rattle.lot_optimal.proofs.making.rows_made.Goals.{then-wants-day-gt0+in_ok-push, else-wants-day-gt0}

pub loop-day-preserved : goal.loop-day-preserved
loop-day-preserved c =
    let within = c.loop-day-test.true in
    elim c.if-wants-day-gt0.branch [
      | then-wants-day-gt0+in_ok-push w ↦
          let row = rows_some c.args.setup c.args.hold c.loop-day.day (get_or c.args.potentials.now c.loop-day.day 0) c.args.wants.now c.args.planned.now within c.requires.same w.if-wants-day-gt0.true
          (c.requires.told c.loop-day.day (omega arith) within w.if-wants-day-gt0.true) in
          c.loop-day.invariant ∙ ap (λ rows. c.loop-day.rows ++ rows) row
          ∙ row_pushed c.if-wants-day-gt0.rows c.loop-day.rows (rows_of c.args.setup c.args.hold (c.loop-day.day + 1) (drop (c.loop-day.day + 1) c.args.wants.now) (drop (c.loop-day.day + 1) c.args.planned.now))
          (record { at = c.loop-day.day; need = get_or c.args.wants.now c.loop-day.day 0; quantity = get_or c.args.planned.now c.loop-day.day 0; potential = get_or c.args.potentials.now c.loop-day.day 0 })
          (w.rows-is ∙ w.in_ok-push.ensures.ok)
      | else-wants-day-gt0 w ↦
          c.loop-day.invariant ∙ ap (λ rows. c.loop-day.rows ++ rows) (rows_none c.args.setup c.args.hold c.loop-day.day c.args.wants.now c.args.planned.now within c.requires.same w.if-wants-day-gt0.false)
          ∙ ap (λ rows. rows ++ rows_of c.args.setup c.args.hold (c.loop-day.day + 1) (drop (c.loop-day.day + 1) c.args.wants.now) (drop (c.loop-day.day + 1) c.args.planned.now)) (sym w.rows-is)
    ]
