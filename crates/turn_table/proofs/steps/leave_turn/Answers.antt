use Rattle.std.proofs.Common.{◌<◌, arith}
use Rattle.turn_table.proofs.Moves.{leave-moves}
use Rattle.turn_table.proofs.steps.leave_turn.Goals as goal

pub fetch_add-requires : goal.fetch_add-requires
fetch_add-requires g c =
    let few : 2 < c.args.table.now.table_id.words = rw c.requires.words (omega arith) in
    (c.requires.table, few, leave-moves g.T.Storied.story g.T.Storied.faults g.T.Storied.basis c.args.table.now.key _ _ c.args.seat.now.me c.requires.numbered c.requires.may)
