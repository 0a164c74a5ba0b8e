use Rattle.std.proofs.Common.{◌≡◌, ◌<◌, None, Some, length, arith, get_or, refl, sym, ◌∙◌, ap, subst, inl, inr}
use Rattle.std.specs.Prelude.{slice_get, is_some}
use Rattle.std.specs.List.{AllByRecursion}
use Rattle.std.proofs.lemmas.Option.{slice_get-get_or, slice_get_read}
use Rattle.low_level_codes.specs.Graphs.{level_at, shown, at, IsReach}
use Rattle.low_level_codes.proofs.Places.{at_shown, within_at, marked_at, shown_long}
use Rattle.low_level_codes.proofs.Above.{level_there, some_tells}
use Rattle.low_level_codes.proofs.Cyclic.{none_more}
use Rattle.low_level_codes.proofs.codes.first_own.Goals as goal

pub loop-at-preserved-then-is_some : goal.loop-at-preserved-then-is_some
loop-at-preserved-then-is_some c =
    let at = c.loop-at.at in
    let long = c.requires.long in
    let low : at < length c.args.places.now = omega arith in
    let place = get_or c.args.places.now at 0 in
    let here : slice_get c.args.places.now at ≡ Some place = slice_get-get_or c.args.places.now at 0 low in
    let inside = c.requires.inside at place here in
    let short : place < length c.args.levels.now = subst (λ n. place < n) (sym c.requires.whole) inside in
    let level = level_there c.args.levels.now place (get_or c.args.levels.now place None) None short refl in
    let some = some_tells (level_at c.args.levels.now place) (ap is_some level ∙ sym c.is_some.ensures ∙ c.if-is_some.true) in
    none_more (shown c.args.ups.now) c.args.levels.now c.args.heights.now c.args.places.now at place here c.loop-at.invariant (inl some)

pub loop-at-preserved-then-is_some-2 : goal.loop-at-preserved-then-is_some-2
loop-at-preserved-then-is_some-2 c =
    let at = c.loop-at.at in
    let long = c.requires.long in
    let low : at < length c.args.places.now = omega arith in
    let place = get_or c.args.places.now at 0 in
    let here : slice_get c.args.places.now at ≡ Some place = slice_get-get_or c.args.places.now at 0 low in
    let inside = c.requires.inside at place here in
    let short : place < length c.args.heights.now = subst (λ n. place < n) (sym c.requires.heights) inside in
    let level = level_there c.args.heights.now place (get_or c.args.heights.now place None) None short refl in
    let some = some_tells (level_at c.args.heights.now place) (ap is_some level ∙ sym c.is_some-in-loop-at.ensures ∙ c.if-is_some-2.true) in
    none_more (shown c.args.ups.now) c.args.levels.now c.args.heights.now c.args.places.now at place here c.loop-at.invariant (inr (inl some))

pub bounds-ups-place : goal.bounds-ups-place
bounds-ups-place c =
    let at = c.loop-at.at in
    let long = c.requires.long in
    let low : at < length c.args.places.now = omega arith in
    let place = get_or c.args.places.now at 0 in
    c.requires.inside at place (slice_get-get_or c.args.places.now at 0 low)

pub offset_bounds-ups-place : goal.offset_bounds-ups-place
offset_bounds-ups-place c =
    let at = c.loop-at.at in
    let long = c.requires.long in
    let low : at < length c.args.places.now = omega arith in
    let place = get_or c.args.places.now at 0 in
    let inside = c.requires.inside at place (slice_get-get_or c.args.places.now at 0 low) in
    omega arith

pub reach-requires-clause-inside : goal.reach-requires-clause-inside
reach-requires-clause-inside c =
    let i = c.loop-at.at in
    let long = c.requires.long in
    let low : i < length c.args.places.now = omega arith in
    let place = get_or c.args.places.now i 0 in
    let inside = c.requires.inside i place (slice_get-get_or c.args.places.now i 0 low) in
    let ups : c.as_slice.result.now ≡ at (shown c.args.ups.now) place = c.as_slice.ensures.value ∙ sym (at_shown c.args.ups.now place c.index-ups-place.result c.index-ups-place.result inside c.index-ups-place.is) in
    subst (AllByRecursion (λ q. q < length c.args.ups.now)) (sym ups) (within_at (length c.args.ups.now) (shown c.args.ups.now) place c.requires.graph)

pub index-requires : goal.index-requires
index-requires c =
    let i = c.loop-at.at in
    let long = c.requires.long in
    let low : i < length c.args.places.now = omega arith in
    let place = get_or c.args.places.now i 0 in
    let inside = c.requires.inside i place (slice_get-get_or c.args.places.now i 0 low) in
    let r = c.in_ok-seen.ensures in
    let whole = r.whole in
    let as_long = shown_long c.args.ups.now in
    omega arith

pub returns-then-index : goal.returns-then-index
returns-then-index c =
    let i = c.loop-at.at in
    let long = c.requires.long in
    let low : i < length c.args.places.now = omega arith in
    let place = get_or c.args.places.now i 0 in
    let here : slice_get c.args.places.now i ≡ Some place = slice_get-get_or c.args.places.now i 0 low in
    let inside = c.requires.inside i place here in
    let ups : c.as_slice.result.now ≡ at (shown c.args.ups.now) place = c.as_slice.ensures.value ∙ sym (at_shown c.args.ups.now place c.index-ups-place.result c.index-ups-place.result inside c.index-ups-place.is) in
    let r : IsReach (shown c.args.ups.now) (at (shown c.args.ups.now) place) c.in_ok-seen.seen.items = subst (λ from. IsReach (shown c.args.ups.now) from c.in_ok-seen.seen.items) ups c.in_ok-seen.ensures in
    let short : place < length c.in_ok-seen.seen.items = subst (λ n. place < n) (sym (r.whole ∙ shown_long c.args.ups.now)) inside in
    record {
      index = i;
      place = place;
      there = here;
      named = slice_get_read c.args.names.now (length c.args.names.now) i c.index-names-at.result refl c.loop-at-test.true c.index-names-at.is;
      own = (c.in_ok-seen.seen.items, r, marked_at c.in_ok-seen.seen.items place c.index.result.now c.index.result.now short c.index.ensures ∙ c.if-index.true);
      before = c.loop-at.invariant;
    }

pub loop-at-preserved : goal.loop-at-preserved
loop-at-preserved c =
    let i = c.loop-at.at in
    let long = c.requires.long in
    let low : i < length c.args.places.now = omega arith in
    let place = get_or c.args.places.now i 0 in
    let here : slice_get c.args.places.now i ≡ Some place = slice_get-get_or c.args.places.now i 0 low in
    let inside = c.requires.inside i place here in
    let ups : c.as_slice.result.now ≡ at (shown c.args.ups.now) place = c.as_slice.ensures.value ∙ sym (at_shown c.args.ups.now place c.index-ups-place.result c.index-ups-place.result inside c.index-ups-place.is) in
    let r : IsReach (shown c.args.ups.now) (at (shown c.args.ups.now) place) c.in_ok-seen.seen.items = subst (λ from. IsReach (shown c.args.ups.now) from c.in_ok-seen.seen.items) ups c.in_ok-seen.ensures in
    let short : place < length c.in_ok-seen.seen.items = subst (λ n. place < n) (sym (r.whole ∙ shown_long c.args.ups.now)) inside in
    none_more (shown c.args.ups.now) c.args.levels.now c.args.heights.now c.args.places.now i place here c.loop-at.invariant
    (inr (inr (c.in_ok-seen.seen.items, r, marked_at c.in_ok-seen.seen.items place c.index.result.now c.index.result.now short c.index.ensures ∙ c.if-index.false)))
