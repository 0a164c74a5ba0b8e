use Rattle.std.proofs.Common.{◌≡◌, ◌<◌, ◌∙◌, arith, sym, ap, true, Some}
use Rattle.turn_table.specs.Rule.{is_numbered}
use Rattle.turn_table.proofs.Moves.{number-moves, split-keeps, is-numbered, some-same}
use Rattle.turn_table.proofs.steps.split_off.Goals as goal

pub fetch_add-number-requires : goal.fetch_add-number-requires
fetch_add-number-requires g c =
    let few : 0 < c.args.table.now.table_id.words = rw c.requires.words (omega arith) in
    (c.requires.table, few, number-moves g.T.Storied.story g.T.Storied.faults g.T.Storied.basis c.args.table.now.key _ _ c.args.seat.now.me c.requires.first c.requires.bare c.requires.few)

pub split_seat-requires : goal.split_seat-requires
split_seat-requires g c =
    let n = c.fetch_add-number.ensures in
    let v = c.fetch_add-number.new.seat.me.0 in
    let few : 0 < c.args.table.now.table_id.words = rw c.requires.words (omega arith) in
    let given : is_numbered v ≡ true = ap (λ m. is_numbered m.0) n.2.seat ∙ is-numbered c.args.seat.now.me.0 0 c.requires.first in
    let spare : v.numbers.spare ≡ Some c.fetch_add-number.result = ap (λ m. m.0.numbers.spare) n.2.seat in (
      n.0 ∙ c.requires.table,
      few,
      split-keeps g.T.Storied.story g.T.Storied.faults g.T.Storied.basis c.args.table.now.key c.fetch_add-number.new.seat.id v given
          (λ e. let z = some-same c.fetch_add-number.result 0 (sym spare ∙ e) in let m = n.2.next in omega arith),
    )
