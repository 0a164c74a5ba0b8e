use Rattle.std.proofs.Common.{◌≡◌, ◌<◌, ◌∙◌, arith, sym, subst, true}
use Rattle.turn_table.specs.Story.{Begins}
use Rattle.turn_table.specs.Rule.{is_numbered}
use Rattle.turn_table.proofs.Stories.{begin-longer}
use Rattle.turn_table.proofs.Moves.{join-keeps, compare-moves}
use Rattle.turn_table.proofs.steps.join_in.Goals as goal

pub join_seat-requires : goal.join_seat-requires
join_seat-requires g c =
    let r = c.requires in
    let some_word : 0 < c.args.table.now.table_id.words = rw r.words (omega arith) in
    (r.table.0, r.table.1, r.empty, some_word, join-keeps g.T.Storied.story g.T.Storied.faults g.T.Storied.basis c.args.table.now.key c.args.seat.now.id c.args.other.id c.args.seat.now.me.0 c.args.other.me.0 r.numbered r.bare.0 r.bare.1 r.idle.0 r.idle.1)

pub load-requires : goal.load-requires
load-requires g c =
    let j = c.join_seat.ensures in
    let few : 2 < c.args.table.now.table_id.words = rw c.requires.words (omega arith) in
    let given : is_numbered c.join_seat.new.seat.me.0 ≡ true = subst (λ m. is_numbered m.0 ≡ true) (sym j.2) c.requires.numbered in
    (j.0 ∙ c.requires.table.0, few, compare-moves g.T.Storied.story g.T.Storied.faults g.T.Storied.basis c.args.table.now.key _ _ c.join_seat.new.seat.me given)

pub returns-clause-seen : goal.returns-clause-seen
returns-clause-seen g c =
    let j = c.join_seat.ensures in
    let l = c.load.ensures.2 in
    let v = c.args.seat.now.me.0 in
    let w = c.args.other.me.0 in
    let both = begin-longer v.reading.seen w.reading.seen l.story (subst (λ m. Begins m.0.reading.seen l.story) j.2 l.seen) (subst (λ m. Begins m.0.reading.met l.story) j.2 l.met) in
    subst (λ m. Begins v.reading.seen m.0.reading.seen × Begins w.reading.seen m.0.reading.seen) (sym (l.seat ∙ j.2)) both
