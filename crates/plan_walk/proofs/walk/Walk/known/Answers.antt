use Rattle.std.proofs.Common.{◌≡◌, ◌∙◌, ap, sym, subst, length}
use Rattle.std.specs.Prelude.{Some, slice_get}
use Rattle.low_level_codes.specs.Numbers.{Lacks}
use Rattle.walk_rules.specs.Walks.{known_at}
use Rattle.plan_walk.specs.Places.{known_in}
use Rattle.plan_walk.specs.Nodes.{node_names, shown}
use Rattle.plan_walk.specs.View.{View}
use Rattle.plan_walk.proofs.Shown.{shown_long}
use Rattle.plan_walk.proofs.Places.{known_place}
use Rattle.plan_walk.proofs.SoFar.{names_long}
use Rattle.plan_walk.proofs.Finding.{unknown_name}
use Rattle.plan_walk.proofs.walk.Walk.known.Goals as goal

pub returns-in-Some : goal.returns-in-Some
returns-in-Some c =
    let nodes = c.self.inside.nodes.items in
    let known = c.self.inside.known.items in
    let long : length (shown known) ≡ length (node_names nodes) = shown_long known ∙ c.self.invariant.whole ∙ sym (names_long nodes) in
    let is : slice_get (node_names nodes) c.in-Some.place ≡ Some c.args.name.now = subst (λ ns. slice_get ns c.in-Some.place ≡ Some c.args.name.now) c.self.invariant.numbered c.in-Some.ensures in
    c.value_at.ensures ∙ ap (λ ks. known_in (shown ks) c.in-Some.place) c.as_slice.ensures.value
    ∙ sym (known_place (node_names nodes) (shown known) c.in-Some.place c.args.name.now c.self.invariant.graph.distinct long is) ∙ ap (λ (w : View). known_at w.parts c.args.name.now) c.self.view_is

pub returns-in-None : goal.returns-in-None
returns-in-None c =
    let nodes = c.self.inside.nodes.items in
    let absent : Lacks (node_names nodes) c.args.name.now = subst (λ ns. Lacks ns c.args.name.now) c.self.invariant.numbered c.in-None.ensures in
    sym (unknown_name (node_names nodes) (shown c.self.inside.known.items) c.args.name.now absent) ∙ ap (λ (w : View). known_at w.parts c.args.name.now) c.self.view_is
