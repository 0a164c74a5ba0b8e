use Rattle.std.proofs.Common.{◌≡◌, ◌<◌, arith, ◌∙◌, ◌∷◌, [], refl, sym, ap, subst, Some, None}
use Rattle.atomic_table.specs.Table.{Allows, rest}
use Rattle.turn_table.specs.Rule.{Kept}
use Rattle.turn_table.specs.Steps.{Seated, Opened, Started, opener}
use Rattle.turn_table.proofs.Opening.{open-moves, start-moves}
use Rattle.turn_table.proofs.steps.put_first.Goals as goal

pub load-requires : goal.load-requires
load-requires g c =
    let story = g.T.Storied.story in
    let faults = g.T.Storied.faults in
    let basis = g.T.Storied.basis in
    let key = c.args.table.now.key in
    let few : 3 < c.args.table.now.table_id.words = rw c.requires.words (omega arith) in
    let S : Type 0 = Seated g.row.T.Denot g.row.T-Entry.Denot g.row.T-Basis.Denot in
    let A : S → Type 0 = λ m. Allows (Kept story faults basis key) c.args.table.now.table_id.slots c.args.seat.now.id m 3 (λ n. n) (Opened m) in
    (c.requires.table, few, subst A (sym c.requires.first) (open-moves story faults basis key _ _))

pub exchange-before-requires : goal.exchange-before-requires
exchange-before-requires g c =
    let l = c.load.ensures in
    (l.0 ∙ c.requires.table, (None, rw l.2 refl))

pub load-requires-2 : goal.load-requires-2
load-requires-2 g c =
    let l = c.load.ensures in
    let e = c.exchange-before.ensures in
    let story = g.T.Storied.story in
    let faults = g.T.Storied.faults in
    let basis = g.T.Storied.basis in
    let key = c.args.table.now.key in
    let few : 3 < c.args.table.now.table_id.words = rw c.requires.words (omega arith) in
    let S : Type 0 = Seated g.row.T.Denot g.row.T-Entry.Denot g.row.T-Basis.Denot in
    let A : S → Type 0 = λ m. Allows (Kept story faults basis key) c.args.table.now.table_id.slots c.exchange-before.new.seat.id m 3 (λ n. n) (Started story faults basis m) in
    let opened : c.load.new.seat.me ≡ (opener key, (0, None) ∷ []) = l.2 ∙ ap (λ (m : S). (opener m.0.first, (0, None) ∷ [])) c.requires.first in
    let me_is : c.exchange-before.new.seat.me ≡ (opener key, (0, Some c.args.value) ∷ []) = e.3 ∙ ap (λ (m : S). (m.0, (0, Some c.args.value) ∷ rest m.1)) opened in
    (e.0 ∙ (l.0 ∙ c.requires.table), few, subst A (sym me_is) (start-moves story faults basis key _ _ c.args.value c.requires.blank))
