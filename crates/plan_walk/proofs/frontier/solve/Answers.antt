use Rattle.std.proofs.Common.{◌≡◌, List, ◌∙◌, sym, subst, length}
use Rattle.walk_rules.specs.Cells.{records}
use Rattle.walk_rules.specs.Rights.{AreRight}
use Rattle.walk_rules.specs.Walks.{frontier}
use Rattle.plan_walk.specs.declared.node.Node.{Node}
use Rattle.plan_walk.specs.Places.{parts_of}
use Rattle.plan_walk.specs.Nodes.{node_names, names_at, shown}
use Rattle.plan_walk.specs.FrontSteps.{AreAtFront}
use Rattle.plan_walk.specs.View.{View}
use Rattle.plan_walk.proofs.Shown.{shown_long}
use Rattle.plan_walk.proofs.AtFronts.{at_front}
use Rattle.plan_walk.proofs.frontier.solve.Goals as goal

pub net_front-requires-clause-parts : goal.net_front-requires-clause-parts
net_front-requires-clause-parts g c =
    let nodes = c.walk.inside.nodes.items in
    let known = c.walk.inside.known.items in
    let front = c.walk.inside.front.items in
    let job = c.walk.inside.job in
    let right : AreRight (records job.cells) (parts_of (node_names nodes) (shown known)) = subst (λ (w : View). AreRight (records w.job.cells) w.parts) (sym c.walk.view_is) c.requires.open.right in
    let exact : names_at (node_names nodes) front ≡ frontier (records job.cells) (parts_of (node_names nodes) (shown known)) = subst (λ (w : View). w.front ≡ frontier (records w.job.cells) w.parts) (sym c.walk.view_is) c.requires.open.front in
    let all = at_front job c.walk.inside.plan nodes (length known) front c.walk.inside.places c.walk.invariant (shown known) (shown_long known ∙ c.walk.invariant.whole) right exact in
    subst (λ fs. AreAtFront job.cells c.as_slice-nodes.result.now (shown c.as_slice-known.result.now) fs) (sym c.as_slice-front.ensures.value)
    (subst (λ ks. AreAtFront job.cells c.as_slice-nodes.result.now (shown ks) front) (sym c.as_slice-known.ensures.value)
    (subst (λ (ns : List Node). AreAtFront job.cells ns (shown known) front) (sym c.as_slice-nodes.ensures.value) all))
