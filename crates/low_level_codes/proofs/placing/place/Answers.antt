use Rattle.std.proofs.Common.{rules, ◌≡◌, ◌<◌, ◌+◌, ℕ, None, Some, map, length, set, replicate, arith, ◌++◌, sym, ◌∙◌, ap, subst, length-set}
use Rattle.std.specs.Prelude.{is_some}
use Rattle.std.specs.List.{AllByRecursion}
use Rattle.planning_rules.specs.Bills.{above_all}
use Rattle.low_level_codes.specs.Graphs.{shown, at, level_at, AreWithin, IsAt}
use Rattle.low_level_codes.proofs.Places.{at_shown, shown_long, within_at, pending}
use Rattle.low_level_codes.proofs.Reaching.{passed_less, none_left}
use Rattle.low_level_codes.proofs.Above.{level_there, some_tells, none_tells, missing_less}
use Rattle.low_level_codes.proofs.Placings.{Placing, place_begins, place_inside, place_passed, place_missed, place_went, place_ends, placed_less}
use Rattle.low_level_codes.proofs.placing.place.Goals as goal

pub loop-place-init : goal.loop-place-init
loop-place-init c =
    let levels : c.in_ok-levels.levels.items ≡ replicate (length c.args.ups.now) None = c.in_ok-levels.ensures.items_if_clones_equal (λ y e. search rules) in
    let long = shown_long c.args.ups.now in
    let placing = subst (λ ls. Placing (shown c.args.ups.now) ls c.in_ok-todo.todo.items 0) (sym levels)
    (place_begins (shown c.args.ups.now) (length c.args.ups.now) c.in_ok-todo.todo.items (sym long)
    (subst (λ n. (q : ℕ) → q < n → IsAt q c.in_ok-todo.todo.items) (sym long) c.in_ok-todo.ensures.all)
    (subst (λ n. AllByRecursion (λ q. q < n) c.in_ok-todo.todo.items) (sym long) c.in_ok-todo.ensures.inside)) in
    record { placing = placing; next = omega (arith, c.in_ok-next.ensures.len) }

pub index-requires : goal.index-requires
index-requires c =
    let p = subst (λ t. Placing (shown c.args.ups.now) c.loop-place.levels.items t c.loop-place.placed) c.in-Some.ensures.items c.loop-place.invariant.placing in
    let inside = place_inside (shown c.args.ups.now) c.loop-place.levels.items c.pop.new.self.items c.in-Some.place c.loop-place.placed p in
    let whole = p.whole in
    let as_long = shown_long c.args.ups.now in
    let next = c.loop-place.invariant.next in
    omega arith

pub loop-place-smaller-then-is_some : goal.loop-place-smaller-then-is_some
loop-place-smaller-then-is_some c = passed_less c.loop-place.todo.items c.pop.new.self.items c.in-Some.place (pending (map is_some c.loop-place.levels.items) (shown c.args.downs.now)) c.in-Some.ensures.items

pub loop-place-preserved-then-is_some : goal.loop-place-preserved-then-is_some
loop-place-preserved-then-is_some c =
    let p = subst (λ t. Placing (shown c.args.ups.now) c.loop-place.levels.items t c.loop-place.placed) c.in-Some.ensures.items c.loop-place.invariant.placing in
    let inside = place_inside (shown c.args.ups.now) c.loop-place.levels.items c.pop.new.self.items c.in-Some.place c.loop-place.placed p in
    let whole = p.whole in
    let low : c.in-Some.place < length c.loop-place.levels.items = omega arith in
    let here = level_there c.loop-place.levels.items c.in-Some.place c.index.result.now c.index.result.now low c.index.ensures in
    let some = some_tells (level_at c.loop-place.levels.items c.in-Some.place) (ap is_some here ∙ sym c.is_some.ensures ∙ c.if-is_some.true) in
    let placing = place_passed (shown c.args.ups.now) c.loop-place.levels.items c.pop.new.self.items c.in-Some.place c.loop-place.placed p some.0 some.1 in
    record { placing = placing; next = c.loop-place.invariant.next }

pub offset_bounds-ups-place : goal.offset_bounds-ups-place
offset_bounds-ups-place c =
    let p = subst (λ t. Placing (shown c.args.ups.now) c.loop-place.levels.items t c.loop-place.placed) c.in-Some.ensures.items c.loop-place.invariant.placing in
    let inside : c.in-Some.place < length c.args.ups.now = subst (λ n. c.in-Some.place < n) (shown_long c.args.ups.now) (place_inside (shown c.args.ups.now) c.loop-place.levels.items c.pop.new.self.items c.in-Some.place c.loop-place.placed p) in
    omega arith

pub bounds-ups-place : goal.bounds-ups-place
bounds-ups-place c =
    let p = subst (λ t. Placing (shown c.args.ups.now) c.loop-place.levels.items t c.loop-place.placed) c.in-Some.ensures.items c.loop-place.invariant.placing in
    subst (λ n. c.in-Some.place < n) (shown_long c.args.ups.now) (place_inside (shown c.args.ups.now) c.loop-place.levels.items c.pop.new.self.items c.in-Some.place c.loop-place.placed p)

pub level_from-requires-clause-inside : goal.level_from-requires-clause-inside
level_from-requires-clause-inside c =
    let p = subst (λ t. Placing (shown c.args.ups.now) c.loop-place.levels.items t c.loop-place.placed) c.in-Some.ensures.items c.loop-place.invariant.placing in
    let inside : c.in-Some.place < length c.args.ups.now = subst (λ n. c.in-Some.place < n) (shown_long c.args.ups.now) (place_inside (shown c.args.ups.now) c.loop-place.levels.items c.pop.new.self.items c.in-Some.place c.loop-place.placed p) in
    let ups : c.as_slice-in-Some.result.now ≡ at (shown c.args.ups.now) c.in-Some.place = c.as_slice-in-Some.ensures.value ∙ sym (at_shown c.args.ups.now c.in-Some.place c.index-ups-place.result c.index-ups-place.result inside c.index-ups-place.is) in
    let long : length c.args.ups.now ≡ length c.as_slice.result.now = sym (shown_long c.args.ups.now) ∙ sym p.whole ∙ ap length (sym c.as_slice.ensures.value) in
    subst (λ qs. AllByRecursion (λ q. q < length c.as_slice.result.now) qs) (sym ups)
    (subst (λ n. AllByRecursion (λ q. q < n) (at (shown c.args.ups.now) c.in-Some.place)) long (within_at (length c.args.ups.now) (shown c.args.ups.now) c.in-Some.place c.requires.graph))

pub level_from-requires-clause-low : goal.level_from-requires-clause-low
level_from-requires-clause-low c = subst (λ ls. (q l : ℕ) → level_at ls q ≡ Some l → l < c.loop-place.placed) (sym c.as_slice.ensures.value) c.loop-place.invariant.placing.low

pub loop-place-smaller-in_default-level_from : goal.loop-place-smaller-in_default-level_from
loop-place-smaller-in_default-level_from c = passed_less c.loop-place.todo.items c.pop.new.self.items c.in-Some.place (pending (map is_some c.loop-place.levels.items) (shown c.args.downs.now)) c.in-Some.ensures.items

pub loop-place-preserved-in_default-level_from : goal.loop-place-preserved-in_default-level_from
loop-place-preserved-in_default-level_from c =
    let p = subst (λ t. Placing (shown c.args.ups.now) c.loop-place.levels.items t c.loop-place.placed) c.in-Some.ensures.items c.loop-place.invariant.placing in
    let inside : c.in-Some.place < length c.args.ups.now = subst (λ n. c.in-Some.place < n) (shown_long c.args.ups.now) (place_inside (shown c.args.ups.now) c.loop-place.levels.items c.pop.new.self.items c.in-Some.place c.loop-place.placed p) in
    let ups : c.as_slice-in-Some.result.now ≡ at (shown c.args.ups.now) c.in-Some.place = c.as_slice-in-Some.ensures.value ∙ sym (at_shown c.args.ups.now c.in-Some.place c.index-ups-place.result c.index-ups-place.result inside c.index-ups-place.is) in
    let levels : c.as_slice.result.now ≡ c.loop-place.levels.items = c.as_slice.ensures.value in
    let none : above_all (map (level_at c.loop-place.levels.items) (at (shown c.args.ups.now) c.in-Some.place)) ≡ None =
    sym (sym c.in_default-level_from.is ∙ c.level_from.ensures.above ∙ (λ i. above_all (map (level_at (levels i)) (ups i)))) in
    let placing = place_missed (shown c.args.ups.now) c.loop-place.levels.items c.pop.new.self.items c.in-Some.place c.loop-place.placed p none in
    record { placing = placing; next = length-set c.loop-place.next.items c.in-Some.place c.level_from.new.next ∙ c.loop-place.invariant.next }

pub index_mut-requires : goal.index_mut-requires
index_mut-requires c =
    let p = subst (λ t. Placing (shown c.args.ups.now) c.loop-place.levels.items t c.loop-place.placed) c.in-Some.ensures.items c.loop-place.invariant.placing in
    let inside = place_inside (shown c.args.ups.now) c.loop-place.levels.items c.pop.new.self.items c.in-Some.place c.loop-place.placed p in
    let whole = p.whole in
    let as_long = shown_long c.args.ups.now in
    let next = c.loop-place.invariant.next in
    omega arith

pub overflow_add-placed : goal.overflow_add-placed
overflow_add-placed c =
    let p = subst (λ t. Placing (shown c.args.ups.now) c.loop-place.levels.items t c.loop-place.placed) c.in-Some.ensures.items c.loop-place.invariant.placing in
    let inside = place_inside (shown c.args.ups.now) c.loop-place.levels.items c.pop.new.self.items c.in-Some.place c.loop-place.placed p in
    let whole = p.whole in
    let count = p.counted in
    let long = shown_long c.args.ups.now in
    let low : c.in-Some.place < length c.loop-place.levels.items = omega arith in
    let here = level_there c.loop-place.levels.items c.in-Some.place c.index.result.now c.index.result.now low c.index.ensures in
    let none = none_tells (level_at c.loop-place.levels.items c.in-Some.place) (ap is_some here ∙ sym c.is_some.ensures ∙ c.if-is_some.false) in
    let one = missing_less c.loop-place.levels.items c.in-Some.place 0 low none in
    omega arith

pub offset_bounds-downs-place : goal.offset_bounds-downs-place
offset_bounds-downs-place c =
    let p = subst (λ t. Placing (shown c.args.ups.now) c.loop-place.levels.items t c.loop-place.placed) c.in-Some.ensures.items c.loop-place.invariant.placing in
    let inside : c.in-Some.place < length c.args.ups.now = subst (λ n. c.in-Some.place < n) (shown_long c.args.ups.now) (place_inside (shown c.args.ups.now) c.loop-place.levels.items c.pop.new.self.items c.in-Some.place c.loop-place.placed p) in
    let whole = c.requires.whole in
    omega arith

pub bounds-downs-place : goal.bounds-downs-place
bounds-downs-place c =
    let p = subst (λ t. Placing (shown c.args.ups.now) c.loop-place.levels.items t c.loop-place.placed) c.in-Some.ensures.items c.loop-place.invariant.placing in
    let inside : c.in-Some.place < length c.args.ups.now = subst (λ n. c.in-Some.place < n) (shown_long c.args.ups.now) (place_inside (shown c.args.ups.now) c.loop-place.levels.items c.pop.new.self.items c.in-Some.place c.loop-place.placed p) in
    let whole = c.requires.whole in
    omega arith

pub loop-place-smaller : goal.loop-place-smaller
loop-place-smaller c =
    let p = subst (λ t. Placing (shown c.args.ups.now) c.loop-place.levels.items t c.loop-place.placed) c.in-Some.ensures.items c.loop-place.invariant.placing in
    let level = c.in-Some-level_from.level in
    let inside : c.in-Some.place < length c.args.ups.now = subst (λ n. c.in-Some.place < n) (shown_long c.args.ups.now) (place_inside (shown c.args.ups.now) c.loop-place.levels.items c.pop.new.self.items c.in-Some.place c.loop-place.placed p) in
    let long : length c.loop-place.levels.items ≡ length (shown c.args.downs.now) = p.whole ∙ shown_long c.args.ups.now ∙ sym c.requires.whole ∙ sym (shown_long c.args.downs.now) in
    let low : c.in-Some.place < length c.loop-place.levels.items = subst (λ n. c.in-Some.place < n) (sym (p.whole ∙ shown_long c.args.ups.now)) inside in
    let short : c.in-Some.place < length c.args.downs.now = subst (λ n. c.in-Some.place < n) (sym c.requires.whole) inside in
    let here = level_there c.loop-place.levels.items c.in-Some.place c.index.result.now c.index.result.now low c.index.ensures in
    let none = none_tells (level_at c.loop-place.levels.items c.in-Some.place) (ap is_some here ∙ sym c.is_some.ensures ∙ c.if-is_some.false) in
    let downs : c.extend_from_slice.new.self.items ≡ c.pop.new.self.items ++ at (shown c.args.downs.now) c.in-Some.place =
    c.in_ok-extend_from_slice.ensures.items ∙ ap (λ xs. c.pop.new.self.items ++ xs) (c.as_slice-in-Some-2.ensures.value ∙ sym (at_shown c.args.downs.now c.in-Some.place c.index-downs-place.result c.index-downs-place.result short c.index-downs-place.is)) in
    subst (λ t. length t + pending (map is_some (set c.loop-place.levels.items c.in-Some.place (Some level))) (shown c.args.downs.now) < length c.loop-place.todo.items + pending (map is_some c.loop-place.levels.items) (shown c.args.downs.now)) (sym downs)
    (placed_less c.loop-place.levels.items level (shown c.args.downs.now) c.loop-place.todo.items c.pop.new.self.items c.in-Some.place c.in-Some.ensures.items long low none)

pub loop-place-preserved : goal.loop-place-preserved
loop-place-preserved c =
    let p = subst (λ t. Placing (shown c.args.ups.now) c.loop-place.levels.items t c.loop-place.placed) c.in-Some.ensures.items c.loop-place.invariant.placing in
    let level = c.in-Some-level_from.level in
    let inside : c.in-Some.place < length c.args.ups.now = subst (λ n. c.in-Some.place < n) (shown_long c.args.ups.now) (place_inside (shown c.args.ups.now) c.loop-place.levels.items c.pop.new.self.items c.in-Some.place c.loop-place.placed p) in
    let low : c.in-Some.place < length c.loop-place.levels.items = subst (λ n. c.in-Some.place < n) (sym (p.whole ∙ shown_long c.args.ups.now)) inside in
    let short : c.in-Some.place < length c.args.downs.now = subst (λ n. c.in-Some.place < n) (sym c.requires.whole) inside in
    let here = level_there c.loop-place.levels.items c.in-Some.place c.index.result.now c.index.result.now low c.index.ensures in
    let none = none_tells (level_at c.loop-place.levels.items c.in-Some.place) (ap is_some here ∙ sym c.is_some.ensures ∙ c.if-is_some.false) in
    let downs : c.extend_from_slice.new.self.items ≡ c.pop.new.self.items ++ at (shown c.args.downs.now) c.in-Some.place =
    c.in_ok-extend_from_slice.ensures.items ∙ ap (λ xs. c.pop.new.self.items ++ xs) (c.as_slice-in-Some-2.ensures.value ∙ sym (at_shown c.args.downs.now c.in-Some.place c.index-downs-place.result c.index-downs-place.result short c.index-downs-place.is)) in
    let ups : c.as_slice-in-Some.result.now ≡ at (shown c.args.ups.now) c.in-Some.place = c.as_slice-in-Some.ensures.value ∙ sym (at_shown c.args.ups.now c.in-Some.place c.index-ups-place.result c.index-ups-place.result inside c.index-ups-place.is) in
    let levels : c.as_slice.result.now ≡ c.loop-place.levels.items = c.as_slice.ensures.value in
    let is : above_all (map (level_at c.loop-place.levels.items) (at (shown c.args.ups.now) c.in-Some.place)) ≡ Some level =
    sym (c.in-Some-level_from.ensures.above ∙ (λ i. above_all (map (level_at (levels i)) (ups i)))) in
    let placing = subst (λ t. Placing (shown c.args.ups.now) (set c.loop-place.levels.items c.in-Some.place (Some level)) t (c.loop-place.placed + 1)) (sym downs)
    (place_went (shown c.args.ups.now) c.loop-place.levels.items c.pop.new.self.items c.in-Some.place c.loop-place.placed p (shown c.args.downs.now) c.requires.turned
    (subst (λ n. AreWithin n (shown c.args.downs.now)) (sym (shown_long c.args.ups.now)) c.requires.below) none level is c.in-Some-level_from.ensures.low) in
    record { placing = placing; next = length-set c.loop-place.next.items c.in-Some.place c.level_from.new.next ∙ c.loop-place.invariant.next }

pub returns : goal.returns
returns c =
    let none = c.in_default.ensures.cases in
    let zero : length c.loop-place.todo.items ≡ 0 = omega (arith, none.0) in
    place_ends (shown c.args.ups.now) c.loop-place.levels.items c.loop-place.todo.items c.loop-place.placed (none_left c.loop-place.todo.items zero) c.loop-place.invariant.placing
