use Rattle.std.proofs.Common.{drop, sym, ◌∙◌, ap}
use Rattle.std.proofs.lemmas.List.{drop_all}
use Rattle.lot_optimal.specs.Costs.{are_rows}
use Rattle.lot_optimal.proofs.RowLaws.{rows_end}
use Rattle.lot_optimal.proofs.checking.fit_needs.Goals as goal

pub returns : goal.returns
returns c =
    sym (c.loop-day.invariant.so_far ∙ ap (λ wants. are_rows c.loop-day.day wants (drop c.loop-day.next c.args.rows.now)) (drop_all c.loop-day.day c.args.wants.now c.loop-day-test.false)
    ∙ rows_end c.loop-day.day c.args.rows.now c.loop-day.next c.loop-day.invariant.within)
