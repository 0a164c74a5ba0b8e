use Rattle.std.proofs.Common.{◌≡◌, ◌∙◌, ap, sym, subst, length, List}
use Rattle.std.specs.Prelude.{MatchOption, Some, slice_get}
use Rattle.plan_schema.specs.declared.name.Name.{Name}
use Rattle.low_level_codes.specs.Numbers.{Lacks}
use Rattle.walk_rules.specs.Walks.{names_of}
use Rattle.plan_walk.specs.Nodes.{node_names, shown}
use Rattle.plan_walk.specs.View.{View}
use Rattle.plan_walk.proofs.Places.{names_place}
use Rattle.plan_walk.proofs.Shown.{shown_long}
use Rattle.plan_walk.proofs.SoFar.{names_long}
use Rattle.plan_walk.proofs.walk.Walk.place_of.Goals as goal

pub returns : goal.returns
returns c =
    let nodes = c.self.inside.nodes.items in
    let known = c.self.inside.known.items in
    let long : length (shown known) ≡ length (node_names nodes) = shown_long known ∙ c.self.invariant.whole ∙ sym (names_long nodes) in
    subst (λ (ns : List Name). MatchOption c.find.result (Lacks ns c.args.name.now) (λ place. slice_get ns place ≡ Some c.args.name.now))
    (c.self.invariant.numbered ∙ sym (names_place (node_names nodes) (shown known) long) ∙ ap (λ (w : View). names_of w.parts) c.self.view_is)
    c.find.ensures
