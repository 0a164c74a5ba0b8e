use Rattle.std.proofs.Common.{◌≡◌, ◌∙◌, ap, sym, length}
use Rattle.std.specs.Prelude.{slice_get}
use Rattle.walk_rules.specs.Walks.{names_of}
use Rattle.plan_walk.specs.Nodes.{node_names, shown}
use Rattle.plan_walk.specs.View.{View}
use Rattle.plan_walk.proofs.Places.{names_place}
use Rattle.plan_walk.proofs.Shown.{shown_long}
use Rattle.plan_walk.proofs.SoFar.{names_long}
use Rattle.plan_walk.proofs.walk.Walk.name_at.Goals as goal

pub returns : goal.returns
returns c =
    let nodes = c.self.inside.nodes.items in
    let known = c.self.inside.known.items in
    let long : length (shown known) ≡ length (node_names nodes) = shown_long known ∙ c.self.invariant.whole ∙ sym (names_long nodes) in
    c.name.ensures ∙ ap (λ ns. slice_get ns c.args.place) (c.self.invariant.numbered ∙ sym (names_place (node_names nodes) (shown known) long))
    ∙ ap (λ (w : View). slice_get (names_of w.parts) c.args.place) c.self.view_is
