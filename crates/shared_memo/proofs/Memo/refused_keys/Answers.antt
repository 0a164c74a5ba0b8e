use Rattle.std.proofs.Common.{rules, ◌≡◌, ◌∙◌, sym, ap, refl, [], ◌∷◌, ◌++◌, append_assoc, true, false}
use Rattle.std.specs.Result.{is_ok}
use Rattle.std.specs.Arc.{arc_value}
use Rattle.std.specs.Fn.{FnReturnsAt}
use Rattle.shared_memo.specs.Pairs.{at_last}
use Rattle.shared_memo.proofs.Mapped.{refuses-kept, refuses-one, mapped, mapped-more}
use Rattle.shared_memo.proofs.Memo.refused_keys.Goals as goal

pub loop-key-init : goal.loop-key-init
loop-key-init g c = ([], refl, rw c.new-refused.ensures.items at_last)

pub loop-key-preserved-in_ok-push : goal.loop-key-preserved-in_ok-push
loop-key-preserved-in_ok-push g c =
    let inv = c.loop-key.invariant in
    let s = rw c.in-Some.is at c.next.ensures.steps in
    let good : is_ok c.push.result ≡ true = search rules in
    let items = rw good at c.push.ensures.items in
    let no : c.keep.result ≡ false = search rules in
    let said : FnReturnsAt g.F.Fn c.args.keep.now c.in-Some.key.now false = record { shown = c.in-Some.key; shows = refl; says = record { met = rw no at c.keep.ensures } } in
    let one = refuses-one (FnReturnsAt g.F.Fn c.args.keep.now) (mapped arc_value inv.0) c.loop-key.refused.items (c.in-Some.key.now, arc_value c.in-Some.field-0-1.now) inv.2 said in (
      inv.0 ++ ((c.in-Some.key.now, c.in-Some.field-0-1.now) ∷ []),
      inv.1 ∙ ap (λ t. inv.0 ++ t) s ∙ sym (append_assoc inv.0 ((c.in-Some.key.now, c.in-Some.field-0-1.now) ∷ []) c.next.new.self),
      rw (items, c.in_ok-twin.ensures, mapped-more arc_value inv.0 c.in-Some.key.now c.in-Some.field-0-1.now) one,
    )

pub loop-key-preserved : goal.loop-key-preserved
loop-key-preserved g c =
    let inv = c.loop-key.invariant in
    let s = rw c.in-Some.is at c.next.ensures.steps in
    let yes' : c.keep.result ≡ true = search rules in
    let said : FnReturnsAt g.F.Fn c.args.keep.now c.in-Some.key.now true = record { shown = c.in-Some.key; shows = refl; says = record { met = rw yes' at c.keep.ensures } } in
    let one = refuses-kept (FnReturnsAt g.F.Fn c.args.keep.now) (mapped arc_value inv.0) c.loop-key.refused.items (c.in-Some.key.now, arc_value c.in-Some.field-0-1.now) inv.2 said in (
      inv.0 ++ ((c.in-Some.key.now, c.in-Some.field-0-1.now) ∷ []),
      inv.1 ∙ ap (λ t. inv.0 ++ t) s ∙ sym (append_assoc inv.0 ((c.in-Some.key.now, c.in-Some.field-0-1.now) ∷ []) c.next.new.self),
      rw (mapped-more arc_value inv.0 c.in-Some.key.now c.in-Some.field-0-1.now) one,
    )
