use Rattle.std.proofs.Common.{◌≡◌, ◌<◌, ◌++◌, ◌∷◌, [], length, take, set, get_or, Some, ap, sym, subst, refl, ◌∙◌, arith, add-one}
use Rattle.std.specs.Prelude.{slice_get}
use Rattle.plan_walk.specs.declared.node.Node.{Node}
use Rattle.plan_walk.specs.Making.{Linked}
use Rattle.plan_walk.proofs.Places.{each_at}
use Rattle.plan_walk.proofs.SoFar.{at_index}
use Rattle.plan_walk.proofs.Joining.{link_begins, link_more, linked_long, take_all}
use Rattle.plan_walk.proofs.graph.join.Goals as goal

pub loop-up-init : goal.loop-up-init
loop-up-init c = link_begins (length c.args.nodes.now.items) c.args.nodes.now.items

pub loop-up-preserved : goal.loop-up-preserved
loop-up-preserved c =
    let nodes = c.args.nodes.now.items in
    let now = c.loop-up.nodes.items in
    let t = c.loop-up.up-index in
    let q = get_or c.deref-up-items.result.now t 0 in
    let ups = c.args.node.ups.items in
    let parent = c.index_mut-parent.result.now in
    let at : slice_get ups t ≡ Some q = subst (λ xs. slice_get xs t ≡ Some q) c.deref-up-items.ensures.value (at_index c.deref-up-items.result.now t q 0 c.loop-up-test.true refl) in
    let under : q < length nodes = each_at (λ k. k < length nodes) ups t q c.requires at in
    let long : length now ≡ length nodes = linked_long (length nodes) (take t ups) nodes now c.loop-up.invariant in
    let inside : q < length now = omega arith in
    let is : slice_get now q ≡ Some parent = at_index now q parent parent inside c.index_mut-parent.ensures.value in
    let counted = c.len-place.ensures in
    let place : c.len-place.result ≡ length nodes = omega arith in
    let pushed : c.push.new.self.items ≡ parent.downs.items ++ length nodes ∷ [] = c.in_ok-push.ensures.items ∙ ap (λ k. parent.downs.items ++ k ∷ []) place in
    let x : Node = record { name = parent.name; part = parent.part; calendar = parent.calendar; cell = parent.cell; ups = parent.ups; downs = c.push.new.self } in
    subst (λ k. Linked (length nodes) (take k ups) nodes (set now q x)) (sym (add-one t)) (link_more (length nodes) ups t q nodes now at c.loop-up.invariant parent x is refl pushed)

pub returns : goal.returns
returns c =
    let nodes = c.args.nodes.now.items in
    let ups = c.args.node.ups.items in
    let past = c.loop-up-test.false in
    let same : length c.deref-up-items.result.now ≡ length ups = ap length c.deref-up-items.ensures.value in
    record {
      now = c.loop-up.nodes.items;
      linked = subst (λ qs. Linked (length nodes) qs nodes c.loop-up.nodes.items) (take_all ups c.loop-up.up-index (omega arith)) c.loop-up.invariant;
      appended = c.in_ok-push-2.ensures.items;
    }
