use Rattle.std.proofs.Common.{◌≡◌, ◌+◌, ◌∙◌, sym, subst, arith, length}
use Rattle.plan_walk.specs.Nodes.{shown}
use Rattle.plan_walk.proofs.Shown.{shown_long}
use Rattle.plan_walk.proofs.SoFar.{at_index}
use Rattle.plan_walk.proofs.Beginning.{ReadySoFar, ready_begins, ready_joins, ready_not, ready_ends}
use Rattle.plan_walk.proofs.graph.ready_places.Goals as goal

pub loop-place-init : goal.loop-place-init
loop-place-init c = subst (ReadySoFar c.args.nodes.now (shown c.args.known.now) 0) (sym c.new-front.ensures.items) (ready_begins c.args.nodes.now (shown c.args.known.now))

pub loop-place-preserved-then-not-is_ready_at : goal.loop-place-preserved-then-not-is_ready_at
loop-place-preserved-then-not-is_ready_at c =
    let node = c.index-nodes-place.result in
    ready_not c.args.nodes.now (shown c.args.known.now) c.requires.graph (shown_long c.args.known.now ∙ c.requires.whole) c.loop-place.place c.loop-place.front.items c.loop-place.invariant node
    (at_index c.args.nodes.now c.loop-place.place node node c.loop-place-test.true c.index-nodes-place.is) (sym c.is_ready_at.ensures ∙ c.if-not-is_ready_at.true)

pub loop-place-preserved : goal.loop-place-preserved
loop-place-preserved c =
    let node = c.index-nodes-place.result in
    subst (ReadySoFar c.args.nodes.now (shown c.args.known.now) (c.loop-place.place + 1)) (sym c.in_ok-push.ensures.items)
    (ready_joins c.args.nodes.now (shown c.args.known.now) c.requires.graph (shown_long c.args.known.now ∙ c.requires.whole) c.loop-place.place c.loop-place.front.items c.loop-place.invariant node
    (at_index c.args.nodes.now c.loop-place.place node node c.loop-place-test.true c.index-nodes-place.is) (sym c.is_ready_at.ensures ∙ c.if-not-is_ready_at.false) c.loop-place-test.true)

pub returns-clause-front : goal.returns-clause-front
returns-clause-front c =
    let past = c.loop-place-test.false in
    let most = c.loop-place.auto.place-end in
    let end : c.loop-place.place ≡ length c.args.nodes.now = omega arith in
    ready_ends c.args.nodes.now (shown c.args.known.now) (shown_long c.args.known.now ∙ c.requires.whole) c.loop-place.place c.loop-place.front.items end c.loop-place.invariant
