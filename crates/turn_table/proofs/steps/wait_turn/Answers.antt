use Rattle.std.proofs.Common.{◌≡◌, ◌<◌, ◌∙◌, arith, sym, subst, true}
use Rattle.turn_table.specs.Rule.{is_numbered}
use Rattle.turn_table.specs.Steps.{MayWait}
use Rattle.turn_table.proofs.Moves.{look-moves}
use Rattle.turn_table.proofs.steps.wait_turn.Goals as goal

pub load-served-requires : goal.load-served-requires
load-served-requires g c =
    let inv = c.loop.invariant in
    let few : 2 < c.args.table.now.table_id.words = rw c.requires.words (omega arith) in
    let given : is_numbered c.loop.seat.me.0 ≡ true = subst (λ m. is_numbered m.0 ≡ true) (sym inv.3) c.requires.numbered in
    let may : MayWait c.loop.seat.me.0 = subst (λ m. MayWait m.0) (sym inv.3) c.requires.may in
    (inv.2 ∙ c.requires.table, few, look-moves g.T.Storied.story g.T.Storied.faults g.T.Storied.basis c.args.table.now.key _ _ c.loop.seat.me given may)
