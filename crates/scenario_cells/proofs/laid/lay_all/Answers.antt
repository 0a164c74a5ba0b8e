use Rattle.std.proofs.Common.{◌≡◌, ◌∙◌, sym, ap, subst, true, ◌∷◌, [], ◌++◌, append_assoc}
use Rattle.std.specs.Prelude.{Option}
use Rattle.std.specs.FinMap.{is_sorted}
use Rattle.plan_schema.specs.Key.{key_cmp}
use Rattle.plan_schema.specs.declared.key.Record.{Record}
use Rattle.scenario_rules.specs.World.{OwnChanges}
use Rattle.scenario_cells.proofs.HeldLaws.{held_contents, contents_ordered}
use Rattle.scenario_cells.proofs.LaidLaws.{none_before}
use Rattle.scenario_cells.proofs.laid.lay_all.Goals as goal

pub loop-key-preserved : goal.loop-key-preserved
loop-key-preserved c =
    let done : OwnChanges = c.loop-key.invariant.0 in
    let key = c.in-Some.key in
    let v : Option Record = c.deref.result.now in
    let rest : OwnChanges = c.next.new.self in
    let own : OwnChanges = c.args.child.now.own in
    let above = c.args.above.now in
    let first = c.args.store.now in
    let items : c.loop-key.key-iterator ≡ (key, v) ∷ rest = c.in-Some.ensures.steps ∙ ap (λ (x : Option Record). (key, x) ∷ rest) (sym c.deref.ensures) in
    let split : own ≡ done ++ (key, v) ∷ rest = c.loop-key.invariant.1 ∙ ap (λ (r : OwnChanges). done ++ r) items in
    let none = none_before done key v rest (subst (λ (o : OwnChanges). is_sorted key_cmp o ≡ true) split c.requires.own) in
    let next = c.in_ok-lay_row.ensures.laid first (held_contents first above) done (contents_ordered first above) c.requires.above.contents c.requires.older c.loop-key.invariant.3 none c.loop-key.invariant.2 in
    (done ++ (key, v) ∷ [], split ∙ sym (append_assoc done ((key, v) ∷ []) rest), next, λ id h. c.in_ok-lay_row.ensures.keeps id h ∙ c.loop-key.invariant.3 id h)
