use Rattle.std.proofs.Common.{◌≡◌, ◌∙◌, ap, sym, refl, arith, true, false, Some}
use Rattle.std.specs.Prelude.{slice_get}
use Rattle.planning_rules.specs.Refused.{least_name}
use Rattle.plan_walk.specs.Nodes.{node_names}
use Rattle.plan_walk.proofs.SoFar.{at_index, name_there, names_long}
use Rattle.plan_walk.proofs.Joining.{take_all}
use Rattle.plan_walk.proofs.Larges.{least_more}
use Rattle.plan_walk.proofs.large.least_large.Goals as goal

pub loop-place-preserved-then-not-is_large_at : goal.loop-place-preserved-then-not-is_large_at
loop-place-preserved-then-not-is_large_at c = λ test h.
    let nodes = c.args.nodes.now in
    let place = c.loop-place.place in
    let node = c.index-nodes-place.result in
    let at : slice_get (node_names nodes) place ≡ Some node.name = name_there nodes place node (at_index nodes place node node c.loop-place-test.true c.index-nodes-place.is) in
    least_more test (node_names nodes) place node.name c.loop-place.least c.loop-place.least at (c.loop-place.invariant test h) false (h place node.name at ∙ sym c.is_large_at.ensures ∙ c.if-not-is_large_at.true) refl

pub loop-place-preserved : goal.loop-place-preserved
loop-place-preserved c = λ test h.
    let nodes = c.args.nodes.now in
    let place = c.loop-place.place in
    let node = c.index-nodes-place.result in
    let at : slice_get (node_names nodes) place ≡ Some node.name = name_there nodes place node (at_index nodes place node node c.loop-place-test.true c.index-nodes-place.is) in
    least_more test (node_names nodes) place node.name c.loop-place.least c.earlier-least.result at (c.loop-place.invariant test h) true (h place node.name at ∙ sym c.is_large_at.ensures ∙ c.if-not-is_large_at.false) c.earlier-least.ensures

pub returns : goal.returns
returns c = λ test h.
    let past = c.loop-place-test.false in
    let long = names_long c.args.nodes.now in
    c.loop-place.invariant test h ∙ ap (least_name test) (take_all (node_names c.args.nodes.now) c.loop-place.place (omega arith))
