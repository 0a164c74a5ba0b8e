use Rattle.std.proofs.Common.{◌≡◌, ◌∙◌, ap, sym, subst, refl, length, get_or, true, Some}
use Rattle.std.specs.Prelude.{slice_get}
use Rattle.std.specs.List.{list_all}
use Rattle.planning_rules.specs.Days.{days_of}
use Rattle.planning_rules.specs.Plan.{has_outcome}
use Rattle.walk_rules.specs.Cells.{records}
use Rattle.walk_rules.specs.Steps.{step_from}
use Rattle.explosion.specs.Sums.{AreReleases}
use Rattle.plan_walk.specs.Places.{known_in, lists_at, parts_of}
use Rattle.plan_walk.specs.Nodes.{node_names, names_at, shown}
use Rattle.plan_walk.specs.Results.{told}
use Rattle.plan_walk.proofs.SoFar.{at_index}
use Rattle.plan_walk.proofs.AtFronts.{net_more, told_more}
use Rattle.plan_walk.proofs.frontier.net_front.Goals as goal

pub releases_at-requires : goal.releases_at-requires
releases_at-requires g c =
    let at = c.loop-place.place-index in
    let place = get_or c.args.front.now at 0 in
    let node = c.index-nodes-place.result in
    let here : slice_get c.args.front.now at ≡ Some place = at_index c.args.front.now at place 0 c.loop-place-test.true refl in
    let there : slice_get c.args.nodes.now place ≡ Some node = at_index c.args.nodes.now place node node (c.requires.places at place here) c.index-nodes-place.is in
    let front = c.requires.parts at place node here there in
    subst (λ qs. list_all (λ q. has_outcome (known_in (shown c.args.known.now) q)) qs ≡ true) (sym c.as_slice.ensures.value) front.outcomes

pub net_part-requires-clause-part : goal.net_part-requires-clause-part
net_part-requires-clause-part g c =
    let at = c.loop-place.place-index in
    let place = get_or c.args.front.now at 0 in
    let node = c.index-nodes-place.result in
    let here : slice_get c.args.front.now at ≡ Some place = at_index c.args.front.now at place 0 c.loop-place-test.true refl in
    let there : slice_get c.args.nodes.now place ≡ Some node = at_index c.args.nodes.now place node node (c.requires.places at place here) c.index-nodes-place.is in
    let front = c.requires.parts at place node here there in
    front.can

pub net_part-requires-clause-lists : goal.net_part-requires-clause-lists
net_part-requires-clause-lists g c =
    let at = c.loop-place.place-index in
    let place = get_or c.args.front.now at 0 in
    let node = c.index-nodes-place.result in
    let here : slice_get c.args.front.now at ≡ Some place = at_index c.args.front.now at place 0 c.loop-place-test.true refl in
    let there : slice_get c.args.nodes.now place ≡ Some node = at_index c.args.nodes.now place node node (c.requires.places at place here) c.index-nodes-place.is in
    let front = c.requires.parts at place node here there in
    let lists : c.as_slice-in-loop-place.result.now ≡ lists_at (shown c.args.known.now) node.ups.items =
    c.as_slice-in-loop-place.ensures.value ∙ c.in_ok-releases.ensures ∙ ap (lists_at (shown c.args.known.now)) c.as_slice.ensures.value in
    subst (AreReleases (days_of (records c.args.job.now.cells))) (sym lists) front.lists

pub net_part-requires-clause-each : goal.net_part-requires-clause-each
net_part-requires-clause-each g c =
    let at = c.loop-place.place-index in
    let place = get_or c.args.front.now at 0 in
    let node = c.index-nodes-place.result in
    let here : slice_get c.args.front.now at ≡ Some place = at_index c.args.front.now at place 0 c.loop-place-test.true refl in
    let there : slice_get c.args.nodes.now place ≡ Some node = at_index c.args.nodes.now place node node (c.requires.places at place here) c.index-nodes-place.is in
    let front = c.requires.parts at place node here there in
    let lists : c.as_slice-in-loop-place.result.now ≡ lists_at (shown c.args.known.now) node.ups.items =
    c.as_slice-in-loop-place.ensures.value ∙ c.in_ok-releases.ensures ∙ ap (lists_at (shown c.args.known.now)) c.as_slice.ensures.value in
    front.each ∙ ap length (sym lists)

pub loop-place-preserved : goal.loop-place-preserved
loop-place-preserved g c =
    let at = c.loop-place.place-index in
    let place = get_or c.args.front.now at 0 in
    let node = c.index-nodes-place.result in
    let here : slice_get c.args.front.now at ≡ Some place = at_index c.args.front.now at place 0 c.loop-place-test.true refl in
    let there : slice_get c.args.nodes.now place ≡ Some node = at_index c.args.nodes.now place node node (c.requires.places at place here) c.index-nodes-place.is in
    let front = c.requires.parts at place node here there in
    let lists : c.as_slice-in-loop-place.result.now ≡ lists_at (shown c.args.known.now) node.ups.items =
    c.as_slice-in-loop-place.ensures.value ∙ c.in_ok-releases.ensures ∙ ap (lists_at (shown c.args.known.now)) c.as_slice.ensures.value in
    let step : step_from (records c.args.job.now.cells) node.name (lists_at (shown c.args.known.now) node.ups.items) ≡ Some c.in_ok-value.value = ap (step_from (records c.args.job.now.cells) node.name) (sym lists) ∙ c.in_ok-value.ensures.known in
    net_more c.args.job.now.cells (parts_of (node_names c.args.nodes.now) (shown c.args.known.now)) (names_at (node_names c.args.nodes.now) c.args.front.now) at (told c.loop-place.results.items) (told c.push.new.self.items)
    c.args.steps.now c.loop-place.steps c.net_part.new.steps node.name c.in_ok-value.value c.loop-place.invariant front.named (front.result c.in_ok-value.value step)
    (ap told c.in_ok-push.ensures.items ∙ told_more c.loop-place.results.items node.name c.in_ok-shared.shared c.in_ok-value.value c.in_ok-shared.ensures.ok) c.in_ok-value.ensures.steps
