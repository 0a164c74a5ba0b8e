use Rattle.std.proofs.Common.{◌<◌, arith, ◌∙◌, refl, Some}
use Rattle.turn_table.proofs.Moves.{take-moves}
use Rattle.turn_table.proofs.steps.take_value.Goals as goal

pub load-entries-requires : goal.load-entries-requires
load-entries-requires g c =
    let few : 3 < c.args.table.now.table_id.words = rw c.requires.words (omega arith) in
    (c.requires.table, few, take-moves g.T.Storied.story g.T.Storied.faults g.T.Storied.basis c.args.table.now.key _ _ c.args.seat.now.me c.requires.numbered c.requires.may)

pub exchange-requires : goal.exchange-requires
exchange-requires g c =
    let e = c.load-entries.ensures in
    (e.0 ∙ c.requires.table, (Some e.2.value, rw e.2.slot refl))
