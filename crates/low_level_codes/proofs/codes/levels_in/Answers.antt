use Rattle.std.proofs.Common.{◌≡◌, ◌<◌, ℕ, Some, length, arith, List, sym, ◌∙◌, ap, subst}
use Rattle.std.specs.Prelude.{slice_get, Option}
use Rattle.std.specs.declared.vec.Vec.{Vec}
use Rattle.plan_schema.specs.declared.name.Name.{Name}
use Rattle.low_level_codes.specs.Graphs.{shown, AreWithin, HasSteps}
use Rattle.low_level_codes.specs.Levels.{AreLevels}
use Rattle.low_level_codes.specs.Numbers.{IsGraph, StandAt}
use Rattle.low_level_codes.proofs.Places.{shown_long}
use Rattle.low_level_codes.proofs.Numbered.{inside}
use Rattle.low_level_codes.proofs.Leveled.{stand_long, stand_at_index, levels_are}
use Rattle.low_level_codes.proofs.Cyclic.{first_is_least, some_own}
use Rattle.low_level_codes.proofs.codes.levels_in.Goals as goal

module _ {Z : Type 0} where
  -- the graph, seen through slices of its vectors
  sliced : {bills : List (Name × Name)} {ns : List Name} {us ds us' ds' : List (Vec ℕ Z)} → us' ≡ us → ds' ≡ ds → IsGraph bills ns (shown us) (shown ds) → IsGraph bills ns (shown us') (shown ds')
  sliced {bills} {ns} {us} {ds} {us'} {ds'} ups downs g =
      subst (λ us. IsGraph bills ns (shown us) (shown ds')) (sym ups) (subst (λ ds. IsGraph bills ns (shown us) (shown ds)) (sym downs) g)

  within : (ns : List Name) (us ts : List (Vec ℕ Z)) → length (shown us) ≡ length ns → AreWithin (length ns) (shown ts) → AreWithin (length us) (shown ts)
  within ns us ts long h = subst (λ n. AreWithin n (shown ts)) (sym long ∙ shown_long us) h

  as_long : (us ds : List (Vec ℕ Z)) (n : ℕ) → length (shown us) ≡ n → length (shown ds) ≡ n → length us ≡ length ds
  as_long us ds n above below = sym (shown_long us) ∙ above ∙ sym below ∙ shown_long ds

  -- one level a place
  stepped : (us : List (Vec ℕ Z)) (levels : List (Option ℕ)) → HasSteps (shown us) levels → length levels ≡ length us
  stepped us levels s = s.whole ∙ shown_long us

standing : (ns : List Name) {places places' : List ℕ} (names : List Name) → places' ≡ places → StandAt ns places names → StandAt ns places' names
standing ns {places} {places'} names same stand = subst (λ ps. StandAt ns ps names) (sym same) stand

places_inside : (ns : List Name) (places : List ℕ) (names : List Name) → StandAt ns places names → (n : ℕ) → n ≡ length ns → (i q : ℕ) → slice_get places i ≡ Some q → q < n
places_inside ns places names stand n long i q is =
    let p = stand_at_index ns places names stand i q is in
    let less = inside ns q p.0 p.2 in
    omega arith

pub place-requires-clause-graph : goal.place-requires-clause-graph
place-requires-clause-graph c =
    let g = sliced c.as_slice-ups.ensures.value c.as_slice-downs.ensures.value (c.in_ok-places.ensures.graph c.requires.graph.0 c.requires.graph.1) in
    within c.places_of.new.self.names c.as_slice-ups.result.now c.as_slice-ups.result.now g.whole g.within

pub place-requires-clause-below : goal.place-requires-clause-below
place-requires-clause-below c =
    let g = sliced c.as_slice-ups.ensures.value c.as_slice-downs.ensures.value (c.in_ok-places.ensures.graph c.requires.graph.0 c.requires.graph.1) in
    within c.places_of.new.self.names c.as_slice-ups.result.now c.as_slice-downs.result.now g.whole g.under

pub place-requires-clause-whole : goal.place-requires-clause-whole
place-requires-clause-whole c =
    let g = sliced c.as_slice-ups.ensures.value c.as_slice-downs.ensures.value (c.in_ok-places.ensures.graph c.requires.graph.0 c.requires.graph.1) in
    as_long c.as_slice-downs.result.now c.as_slice-ups.result.now (length c.places_of.new.self.names) g.below g.whole

pub place-requires-clause-turned : goal.place-requires-clause-turned
place-requires-clause-turned c =
    let g = sliced c.as_slice-ups.ensures.value c.as_slice-downs.ensures.value (c.in_ok-places.ensures.graph c.requires.graph.0 c.requires.graph.1) in
    g.turned

pub with_levels-requires-clause-long : goal.with_levels-requires-clause-long
with_levels-requires-clause-long c =
    stand_long c.places_of.new.self.names c.as_slice-places.result.now c.args.names.now (standing c.places_of.new.self.names c.args.names.now c.as_slice-places.ensures.value c.in_ok-places.ensures.stand)

pub with_levels-requires-clause-inside : goal.with_levels-requires-clause-inside
with_levels-requires-clause-inside c =
    let g = sliced c.as_slice-ups.ensures.value c.as_slice-downs.ensures.value (c.in_ok-places.ensures.graph c.requires.graph.0 c.requires.graph.1) in
    places_inside c.places_of.new.self.names c.as_slice-places.result.now c.args.names.now (standing c.places_of.new.self.names c.args.names.now c.as_slice-places.ensures.value c.in_ok-places.ensures.stand) (length c.as_slice-placed.result.now)
    (ap length c.as_slice-placed.ensures.value ∙ c.in_ok-placed.ensures.whole ∙ g.whole)

pub returns-in-Some-clause-levels : goal.returns-in-Some-clause-levels
returns-in-Some-clause-levels c = λ bills drawn.
    let g = sliced c.as_slice-ups.ensures.value c.as_slice-downs.ensures.value (c.in_ok-places.ensures.graph bills drawn) in
    let s = subst (HasSteps (shown c.as_slice-ups.result.now)) (sym c.as_slice-placed.ensures.value) c.in_ok-placed.ensures in
    subst (AreLevels bills c.args.names.now) (sym c.in_ok-levels.ensures)
    (levels_are bills c.places_of.new.self.names (shown c.as_slice-ups.result.now) (shown c.as_slice-downs.result.now) g c.as_slice-placed.result.now s c.as_slice-places.result.now c.args.names.now
    (standing c.places_of.new.self.names c.args.names.now c.as_slice-places.ensures.value c.in_ok-places.ensures.stand) c.in-Some.found.keys (rw c.in-Some.is at c.in_ok-found.ensures))

pub place-requires-2-clause-graph : goal.place-requires-2-clause-graph
place-requires-2-clause-graph c =
    let g = sliced c.as_slice-ups.ensures.value c.as_slice-downs.ensures.value (c.in_ok-places.ensures.graph c.requires.graph.0 c.requires.graph.1) in
    within c.places_of.new.self.names c.as_slice-downs.result.now c.as_slice-downs.result.now g.below g.under

pub place-requires-2-clause-below : goal.place-requires-2-clause-below
place-requires-2-clause-below c =
    let g = sliced c.as_slice-ups.ensures.value c.as_slice-downs.ensures.value (c.in_ok-places.ensures.graph c.requires.graph.0 c.requires.graph.1) in
    within c.places_of.new.self.names c.as_slice-downs.result.now c.as_slice-ups.result.now g.below g.within

pub place-requires-2-clause-whole : goal.place-requires-2-clause-whole
place-requires-2-clause-whole c =
    let g = sliced c.as_slice-ups.ensures.value c.as_slice-downs.ensures.value (c.in_ok-places.ensures.graph c.requires.graph.0 c.requires.graph.1) in
    as_long c.as_slice-ups.result.now c.as_slice-downs.result.now (length c.places_of.new.self.names) g.whole g.below

pub place-requires-2-clause-turned : goal.place-requires-2-clause-turned
place-requires-2-clause-turned c =
    let g = sliced c.as_slice-ups.ensures.value c.as_slice-downs.ensures.value (c.in_ok-places.ensures.graph c.requires.graph.0 c.requires.graph.1) in
    g.back

pub first_own-requires-clause-graph : goal.first_own-requires-clause-graph
first_own-requires-clause-graph c =
    let g = sliced c.as_slice-ups.ensures.value c.as_slice-downs.ensures.value (c.in_ok-places.ensures.graph c.requires.graph.0 c.requires.graph.1) in
    within c.places_of.new.self.names c.as_slice-ups.result.now c.as_slice-ups.result.now g.whole g.within

pub first_own-requires-clause-whole : goal.first_own-requires-clause-whole
first_own-requires-clause-whole c = ap length c.as_slice-placed.ensures.value ∙ stepped c.as_slice-ups.result.now c.in_ok-placed.placed.items c.in_ok-placed.ensures

pub first_own-requires-clause-heights : goal.first_own-requires-clause-heights
first_own-requires-clause-heights c =
    let g = sliced c.as_slice-ups.ensures.value c.as_slice-downs.ensures.value (c.in_ok-places.ensures.graph c.requires.graph.0 c.requires.graph.1) in
    ap length c.as_slice-heights.ensures.value ∙ stepped c.as_slice-downs.result.now c.in_ok-heights.heights.items c.in_ok-heights.ensures
    ∙ as_long c.as_slice-downs.result.now c.as_slice-ups.result.now (length c.places_of.new.self.names) g.below g.whole

pub first_own-requires-clause-long : goal.first_own-requires-clause-long
first_own-requires-clause-long c =
    stand_long c.places_of.new.self.names c.as_slice-places.result.now c.args.names.now (standing c.places_of.new.self.names c.args.names.now c.as_slice-places.ensures.value c.in_ok-places.ensures.stand)

pub first_own-requires-clause-inside : goal.first_own-requires-clause-inside
first_own-requires-clause-inside c =
    let g = sliced c.as_slice-ups.ensures.value c.as_slice-downs.ensures.value (c.in_ok-places.ensures.graph c.requires.graph.0 c.requires.graph.1) in
    places_inside c.places_of.new.self.names c.as_slice-places.result.now c.args.names.now (standing c.places_of.new.self.names c.args.names.now c.as_slice-places.ensures.value c.in_ok-places.ensures.stand) (length c.as_slice-ups.result.now)
    (sym (shown_long c.as_slice-ups.result.now) ∙ g.whole)

pub unreachable-requires : goal.unreachable-requires
unreachable-requires c =
    let g = sliced c.as_slice-ups.ensures.value c.as_slice-downs.ensures.value (c.in_ok-places.ensures.graph c.requires.graph.0 c.requires.graph.1) in
    let s = subst (HasSteps (shown c.as_slice-ups.result.now)) (sym c.as_slice-placed.ensures.value) c.in_ok-placed.ensures in
    let t = subst (HasSteps (shown c.as_slice-downs.result.now)) (sym c.as_slice-heights.ensures.value) c.in_ok-heights.ensures in
    some_own c.requires.graph.0 c.places_of.new.self.names (shown c.as_slice-ups.result.now) (shown c.as_slice-downs.result.now) g c.as_slice-placed.result.now s c.as_slice-heights.result.now t c.as_slice-places.result.now c.args.names.now
    (standing c.places_of.new.self.names c.args.names.now c.as_slice-places.ensures.value c.in_ok-places.ensures.stand) c.requires.graph.2 (rw c.in_default.is at c.in_ok-found.ensures) (rw c.in_default-own.is at c.in_ok-own.ensures)

pub returns-clause-cyclic : goal.returns-clause-cyclic
returns-clause-cyclic c = λ bills drawn.
    let g = sliced c.as_slice-ups.ensures.value c.as_slice-downs.ensures.value (c.in_ok-places.ensures.graph bills drawn) in
    let s = subst (HasSteps (shown c.as_slice-ups.result.now)) (sym c.as_slice-placed.ensures.value) c.in_ok-placed.ensures in
    let t = subst (HasSteps (shown c.as_slice-downs.result.now)) (sym c.as_slice-heights.ensures.value) c.in_ok-heights.ensures in
    first_is_least bills c.places_of.new.self.names (shown c.as_slice-ups.result.now) (shown c.as_slice-downs.result.now) g c.as_slice-placed.result.now s c.as_slice-heights.result.now t c.as_slice-places.result.now c.args.names.now
    (standing c.places_of.new.self.names c.args.names.now c.as_slice-places.ensures.value c.in_ok-places.ensures.stand) c.requires.ascending c.in-Some-own.name (rw c.in-Some-own.is at c.in_ok-own.ensures)
