use Rattle.std.proofs.Common.{[], sym, subst}
use Rattle.std.specs.List.{filter_map}
use Rattle.plan_schema.specs.Contents.{Contents}
use Rattle.planning_rules.specs.Bills.{parent_in}
use Rattle.plan_walk.specs.Places.{StandAt}
use Rattle.plan_walk.proofs.LookUps.{append_none}
use Rattle.plan_walk.proofs.graph.parents_at.Goals as goal

pub returns : goal.returns
returns c =
    subst (λ qs. StandAt c.args.places.now qs (filter_map parent_in c.args.cell.now)) (append_none c.loop-key.ups.items)
    (c.loop-key.invariant.stand [] (subst (λ (rows : Contents). StandAt c.args.places.now [] (filter_map parent_in rows)) (sym c.in-None.ensures.steps.0) tt))
