use Rattle.std.proofs.Common.{◌≡◌, ◌<◌, length, sym, ◌∙◌, ap, subst, true}
use Rattle.std.specs.List.{AllByRecursion}
use Rattle.planning_rules.proofs.Membership.{in_contained, contained_in}
use Rattle.low_level_codes.specs.Graphs.{shown, marked, AreWithin, IsReach}
use Rattle.low_level_codes.proofs.Places.{shown_long}
use Rattle.low_level_codes.proofs.Ancestors.{closure_only, closure_has, held_in, in_held, places_within}
use Rattle.low_level_codes.proofs.ancestry.reached_names.Goals as goal

pub reach-requires-clause-graph : goal.reach-requires-clause-graph
reach-requires-clause-graph c =
    let g = c.in_ok-places.ensures.graph c.requires.graph.0 c.requires.graph.1 in
    subst (λ us. AreWithin (length us) (shown us)) (sym c.as_slice.ensures.value)
    (subst (λ n. AreWithin n (shown c.places_of.new.self.ups.items)) (sym g.whole ∙ shown_long c.places_of.new.self.ups.items) g.within)

pub reach-requires-clause-inside : goal.reach-requires-clause-inside
reach-requires-clause-inside c =
    let g = c.in_ok-places.ensures.graph c.requires.graph.0 c.requires.graph.1 in
    subst (λ us. AllByRecursion (λ q. q < length us) c.as_slice-2.result.now) (sym c.as_slice.ensures.value)
    (subst (AllByRecursion (λ q. q < length c.places_of.new.self.ups.items)) (sym c.as_slice-2.ensures.value)
    (subst (λ n. AllByRecursion (λ q. q < n) c.in_ok-places.places.items) (sym g.whole ∙ shown_long c.places_of.new.self.ups.items)
    (places_within c.places_of.new.self.names c.in_ok-places.places.items c.args.from.now c.in_ok-places.ensures.stand)))

pub marked_names-requires : goal.marked_names-requires
marked_names-requires c =
    let g = c.in_ok-places.ensures.graph c.requires.graph.0 c.requires.graph.1 in
    let r = c.in_ok-seen.ensures in
    ap length c.as_slice-3.ensures.value ∙ r.whole ∙ ap (λ us. length (shown us)) c.as_slice.ensures.value ∙ g.whole

pub returns-clause-members : goal.returns-clause-members
returns-clause-members c = λ bills drawn.
    let g = c.in_ok-places.ensures.graph bills drawn in
    let ns = c.places_of.new.self.names in
    let us = shown c.places_of.new.self.ups.items in
    let ds = shown c.places_of.new.self.downs.items in
    let from = c.args.from.now in
    let places = c.in_ok-places.places.items in
    let stand = c.in_ok-places.ensures.stand in
    let r : IsReach us places c.in_ok-seen.seen.items =
    subst (λ ps. IsReach us ps c.in_ok-seen.seen.items) c.as_slice-2.ensures.value (subst (λ us. IsReach (shown us) c.as_slice-2.result.now c.in_ok-seen.seen.items) c.as_slice.ensures.value c.in_ok-seen.ensures) in
    let seen : c.as_slice-3.result.now ≡ c.in_ok-seen.seen.items = c.as_slice-3.ensures.value in
    record {
      ascending = c.in_ok-closed.ensures.order;
      members = λ n. (
        (λ there. let w = c.in_ok-closed.ensures.only n (in_held c.in_ok-closed.closed.items n (in_contained c.in_ok-closed.closed.items n there)) in
            closure_only bills ns us ds g places from stand c.in_ok-seen.seen.items r w.0 n w.1 (subst (λ bs. marked bs w.0 ≡ true) seen w.2)),
        (λ what. let w = closure_has bills ns us ds g places from stand c.in_ok-seen.seen.items r n what in
            contained_in c.in_ok-closed.closed.items n (held_in c.in_ok-closed.closed.items n (c.in_ok-closed.ensures.has w.0 n w.1 (subst (λ bs. marked bs w.0 ≡ true) (sym seen) w.2)))),
      );
    }
