use Rattle.std.proofs.Common.{◌≡◌, [], ◌∷◌, ◌++◌, inl, inr, Some, length, arith, subst, get_or, refl, sym, ◌∙◌, ap, true, false}
use Rattle.std.specs.Prelude.{slice_get}
use Rattle.low_level_codes.specs.Graphs.{marked}
use Rattle.low_level_codes.specs.Numbers.{holds, goes_after}
use Rattle.low_level_codes.proofs.Places.{marked_at, never, marked_inside}
use Rattle.low_level_codes.proofs.Ancestors.{beyond}
use Rattle.low_level_codes.proofs.Finding.{has_more}
use Rattle.low_level_codes.proofs.InOrder.{one_more, held_more, held_here, held_one}
use Rattle.low_level_codes.proofs.ancestry.names_in_order.Goals as goal

pub loop-place-preserved-then-not-seen-place : goal.loop-place-preserved-then-not-seen-place
loop-place-preserved-then-not-seen-place c =
    let at : marked c.args.seen.now c.loop-place.place ≡ false = marked_at c.args.seen.now c.loop-place.place (get_or c.args.seen.now c.loop-place.place false) false c.loop-place-test.true refl ∙ c.if-not-seen-place.true in
    record {
      has = has_more c.args.names.now c.args.seen.now c.loop-place.found.items c.loop-place.place c.loop-place.invariant.has (λ n is h. never (sym at ∙ h));
      only = c.loop-place.invariant.only;
      ends = c.loop-place.invariant.ends;
      order = c.loop-place.invariant.order;
    }

pub unreachable-requires : goal.unreachable-requires
unreachable-requires c =
    let past = beyond c.args.names.now c.loop-place.place (sym (c.in_default.ensures)) in
    let same = c.requires in
    let less = c.loop-place-test.true in
    let long : length c.args.seen.now ≡ length c.args.names.now = c.requires in
    omega arith

pub loop-place-preserved : goal.loop-place-preserved
loop-place-preserved c =
    let name = c.in-Some.name.now in
    let at : marked c.args.seen.now c.loop-place.place ≡ true = marked_at c.args.seen.now c.loop-place.place (get_or c.args.seen.now c.loop-place.place false) false c.loop-place-test.true refl ∙ c.if-not-seen-place.false in
    let is : slice_get c.args.names.now c.loop-place.place ≡ Some name = sym c.in-Some.ensures in
    let old = c.loop-place.found.items in
    let after : goes_after c.loop-place.last name ≡ true = sym c.is_after.ensures ∙ c.if-not-is_after.false in
    let more = one_more c.loop-place.last old name c.loop-place.invariant.ends c.loop-place.invariant.order after in
    rw c.in_ok-push.ensures.items (record {
      has = has_more c.args.names.now c.args.seen.now (old ++ name ∷ []) c.loop-place.place
          (λ k n l s h. held_more old name n (c.loop-place.invariant.has k n l s h))
          (λ n s h. let same : Some name ≡ Some n = sym is ∙ s in let one : name ≡ n = cc in subst (λ m. holds (old ++ name ∷ []) m ≡ true) one (held_here old name));
      only = λ n h. elim (held_one old name n h) [
        | inl was ↦ c.loop-place.invariant.only n was
        | inr same ↦ (c.loop-place.place, is ∙ ap Some same, at)
      ];
      ends = more.1;
      order = more.0;
    })

pub returns : goal.returns
returns c = record {
  has = λ k n is h. c.loop-place.invariant.has k n (let less = marked_inside c.args.seen.now k h in let more = c.loop-place-test.false in omega arith) is h;
  only = c.loop-place.invariant.only;
  order = c.loop-place.invariant.order;
}
