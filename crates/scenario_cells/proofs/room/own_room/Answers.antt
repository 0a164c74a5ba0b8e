use Rattle.std.proofs.Common.{◌≡◌, ◌∙◌, sym, ap, subst, true, ◌∷◌, [], ◌++◌, append_assoc}
use Rattle.std.specs.Prelude.{Option, is_some}
use Rattle.std.specs.FinMap.{is_sorted}
use Rattle.plan_schema.specs.Key.{key_cmp}
use Rattle.plan_schema.specs.declared.key.Record.{Record}
use Rattle.scenario_rules.specs.World.{OwnChanges}
use Rattle.scenario_cells.proofs.HeldLaws.{held_contents, contents_ordered, record_is, copied_some}
use Rattle.scenario_cells.proofs.LaidLaws.{none_before, untouched}
use Rattle.scenario_cells.proofs.RoomLaws.{tally_next}
use Rattle.scenario_cells.proofs.room.own_room.Goals as goal

pub loop-key-preserved : goal.loop-key-preserved
loop-key-preserved c =
    let done : OwnChanges = c.loop-key.invariant.0 in
    let key = c.in-Some.key in
    let v : Option Record = c.deref.result.now in
    let rest : OwnChanges = c.next.new.self in
    let own : OwnChanges = c.args.child.now.own in
    let cells = c.args.store.now in
    let above = c.args.above.now in
    let a = held_contents cells above in
    let items : c.loop-key.key-iterator ≡ (key, v) ∷ rest = c.in-Some.ensures.steps ∙ ap (λ (x : Option Record). (key, x) ∷ rest) (sym c.deref.ensures) in
    let split : own ≡ done ++ (key, v) ∷ rest = c.loop-key.invariant.1 ∙ ap (λ (r : OwnChanges). done ++ r) items in
    let none = none_before done key v rest (subst (λ (o : OwnChanges). is_sorted key_cmp o ≡ true) split c.requires.own) in
    let had = c.is_some-had.ensures ∙ copied_some c.row.result ∙ ap is_some (c.row.ensures ∙ record_is cells above key c.requires.above ∙ sym (untouched a done key (contents_ordered cells above) none)) in
    let next = tally_next a done c.loop-key.tally c.tallied-tally.result key v c.is_some-had.result c.is_some.result (contents_ordered cells above) c.loop-key.invariant.2 had c.is_some.ensures c.tallied-tally.ensures in
    (done ++ (key, v) ∷ [], split ∙ sym (append_assoc done ((key, v) ∷ []) rest), next)
