use Rattle.std.proofs.Common.{◌<◌, ◌∙◌, arith, sym, ap}
use Rattle.turn_table.proofs.Moves.{split-keeps, none-is-no, left-bare}
use Rattle.turn_table.proofs.steps.copy_off.Goals as goal

pub split_seat-requires : goal.split_seat-requires
split_seat-requires g c =
    let some_word : 0 < c.args.table.now.table_id.words = rw c.requires.words (omega arith) in (
      c.requires.table,
      some_word,
      split-keeps g.T.Storied.story g.T.Storied.faults g.T.Storied.basis c.args.table.now.key c.args.seat.now.id c.args.seat.now.me.0 c.requires.numbered
          (λ e. none-is-no 0 (sym c.requires.bare ∙ e)),
    )

pub returns-clause-seat : goal.returns-clause-seat
returns-clause-seat g c = c.split_seat.ensures.2 ∙ ap (λ v. (v, c.args.seat.now.me.1)) (left-bare c.args.seat.now.me.0 c.requires.bare)
