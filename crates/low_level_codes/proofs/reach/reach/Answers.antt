use Rattle.std.proofs.Common.{◌≡◌, ◌<◌, ◌+◌, length, arith, ◌++◌, sym, ◌∙◌, ap, subst, true, false, set, replicate}
use Rattle.std.specs.List.{AllByRecursion}
use Rattle.low_level_codes.specs.Graphs.{shown, at, AreWithin}
use Rattle.low_level_codes.proofs.Places.{at_shown, shown_long, pending, marked_at}
use Rattle.low_level_codes.proofs.Reaching.{Reaching, reach_begins, reach_passed, reach_went, reach_ends, place_inside, passed_less, went_less, none_left}
use Rattle.low_level_codes.proofs.reach.reach.Goals as goal

pub loop-place-init : goal.loop-place-init
loop-place-init c =
    let seen : c.in_ok-seen.seen.items ≡ replicate (length c.args.ups.now) false = c.in_ok-seen.ensures.items_if_clones_equal (λ y e. e) in
    let todo : c.extend_from_slice.new.self.items ≡ c.args.from.now = c.in_ok-extend_from_slice.ensures.items ∙ ap (λ xs. xs ++ c.args.from.now) c.new-todo.ensures.items in
    let long = shown_long c.args.ups.now in
    subst (λ bs. Reaching (shown c.args.ups.now) c.args.from.now bs c.extend_from_slice.new.self.items) (sym seen)
    (subst (Reaching (shown c.args.ups.now) c.args.from.now (replicate (length c.args.ups.now) false)) (sym todo)
    (reach_begins (shown c.args.ups.now) c.args.from.now (length c.args.ups.now) (sym long) (subst (λ n. AllByRecursion (λ q. q < n) c.args.from.now) (sym long) c.requires.inside)))

pub index-requires : goal.index-requires
index-requires c = let r = subst (Reaching (shown c.args.ups.now) c.args.from.now c.loop-place.seen.items) c.in-Some.ensures.items c.loop-place.invariant in
    let inside = place_inside (shown c.args.ups.now) c.args.from.now c.loop-place.seen.items c.pop.new.self.items c.in-Some.place r in
    let whole = r.whole in
    omega arith

pub loop-place-preserved-then-index : goal.loop-place-preserved-then-index
loop-place-preserved-then-index c =
    let r = subst (Reaching (shown c.args.ups.now) c.args.from.now c.loop-place.seen.items) c.in-Some.ensures.items c.loop-place.invariant in
    let inside = place_inside (shown c.args.ups.now) c.args.from.now c.loop-place.seen.items c.pop.new.self.items c.in-Some.place r in
    let low : c.in-Some.place < length c.loop-place.seen.items = subst (λ n. c.in-Some.place < n) (sym r.whole) inside in
    reach_passed (shown c.args.ups.now) c.args.from.now c.loop-place.seen.items c.pop.new.self.items c.in-Some.place r
    (marked_at c.loop-place.seen.items c.in-Some.place c.index.result.now c.index.result.now low c.index.ensures ∙ c.if-index.true)

pub index_mut-requires : goal.index_mut-requires
index_mut-requires c = let r = subst (Reaching (shown c.args.ups.now) c.args.from.now c.loop-place.seen.items) c.in-Some.ensures.items c.loop-place.invariant in
    let inside = place_inside (shown c.args.ups.now) c.args.from.now c.loop-place.seen.items c.pop.new.self.items c.in-Some.place r in
    let whole = r.whole in
    omega arith

pub offset_bounds-ups-place : goal.offset_bounds-ups-place
offset_bounds-ups-place c =
    let r = subst (Reaching (shown c.args.ups.now) c.args.from.now c.loop-place.seen.items) c.in-Some.ensures.items c.loop-place.invariant in
    let inside : c.in-Some.place < length c.args.ups.now = subst (λ n. c.in-Some.place < n) (shown_long c.args.ups.now) (place_inside (shown c.args.ups.now) c.args.from.now c.loop-place.seen.items c.pop.new.self.items c.in-Some.place r) in
    omega arith

pub bounds-ups-place : goal.bounds-ups-place
bounds-ups-place c = let r = subst (Reaching (shown c.args.ups.now) c.args.from.now c.loop-place.seen.items) c.in-Some.ensures.items c.loop-place.invariant in
    subst (λ n. c.in-Some.place < n) (shown_long c.args.ups.now) (place_inside (shown c.args.ups.now) c.args.from.now c.loop-place.seen.items c.pop.new.self.items c.in-Some.place r)

pub loop-place-smaller-then-index : goal.loop-place-smaller-then-index
loop-place-smaller-then-index c = passed_less c.loop-place.todo.items c.pop.new.self.items c.in-Some.place (pending c.loop-place.seen.items (shown c.args.ups.now)) c.in-Some.ensures.items

pub loop-place-smaller : goal.loop-place-smaller
loop-place-smaller c =
    let s = c.in_ok-extend_from_slice-2.ensures.items in
    let r = subst (Reaching (shown c.args.ups.now) c.args.from.now c.loop-place.seen.items) c.in-Some.ensures.items c.loop-place.invariant in
    let inside = place_inside (shown c.args.ups.now) c.args.from.now c.loop-place.seen.items c.pop.new.self.items c.in-Some.place r in
    let low : c.in-Some.place < length c.loop-place.seen.items = subst (λ n. c.in-Some.place < n) (sym r.whole) inside in
    let short : c.in-Some.place < length c.args.ups.now = subst (λ n. c.in-Some.place < n) (shown_long c.args.ups.now) inside in
    let here = at_shown c.args.ups.now c.in-Some.place c.index-ups-place.result c.index-ups-place.result short c.index-ups-place.is in
    let joined : c.extend_from_slice-in-Some.new.self.items ≡ c.pop.new.self.items ++ at (shown c.args.ups.now) c.in-Some.place = s ∙ ap (λ xs. c.pop.new.self.items ++ xs) (c.as_slice.ensures.value ∙ sym here) in
    subst (λ t. length t + pending (set c.loop-place.seen.items c.in-Some.place true) (shown c.args.ups.now) < length c.loop-place.todo.items + pending c.loop-place.seen.items (shown c.args.ups.now)) (sym joined)
    (went_less c.loop-place.seen.items (shown c.args.ups.now) c.loop-place.todo.items c.pop.new.self.items c.in-Some.place c.in-Some.ensures.items r.whole low
    (marked_at c.loop-place.seen.items c.in-Some.place c.index.result.now c.index.result.now low c.index.ensures ∙ c.if-index.false))

pub loop-place-preserved : goal.loop-place-preserved
loop-place-preserved c =
    let s = c.in_ok-extend_from_slice-2.ensures.items in
    let r = subst (Reaching (shown c.args.ups.now) c.args.from.now c.loop-place.seen.items) c.in-Some.ensures.items c.loop-place.invariant in
    let inside = place_inside (shown c.args.ups.now) c.args.from.now c.loop-place.seen.items c.pop.new.self.items c.in-Some.place r in
    let short : c.in-Some.place < length c.args.ups.now = subst (λ n. c.in-Some.place < n) (shown_long c.args.ups.now) inside in
    let here = at_shown c.args.ups.now c.in-Some.place c.index-ups-place.result c.index-ups-place.result short c.index-ups-place.is in
    let joined : c.extend_from_slice-in-Some.new.self.items ≡ c.pop.new.self.items ++ at (shown c.args.ups.now) c.in-Some.place = s ∙ ap (λ xs. c.pop.new.self.items ++ xs) (c.as_slice.ensures.value ∙ sym here) in
    subst (Reaching (shown c.args.ups.now) c.args.from.now (set c.loop-place.seen.items c.in-Some.place true)) (sym joined)
    (reach_went (shown c.args.ups.now) c.args.from.now c.loop-place.seen.items c.pop.new.self.items c.in-Some.place r
    (subst (λ n. AreWithin n (shown c.args.ups.now)) (sym (shown_long c.args.ups.now)) c.requires.graph))

pub returns : goal.returns
returns c =
    let none = c.in_default.ensures.cases in
    let zero : length c.loop-place.todo.items ≡ 0 = omega (arith, none.0) in
    reach_ends (shown c.args.ups.now) c.args.from.now c.loop-place.seen.items c.loop-place.todo.items (none_left c.loop-place.todo.items zero) c.loop-place.invariant
