use Rattle.std.proofs.Common.{◌≡◌, ◌<◌, ◌∙◌, length, ap, sym, subst, Some}
use Rattle.std.specs.Prelude.{slice_get}
use Rattle.std.specs.List.{AllByRecursion}
use Rattle.planning_rules.specs.Bills.{parents}
use Rattle.walk_rules.specs.Cells.{records}
use Rattle.plan_walk.specs.Making.{IsNew}
use Rattle.plan_walk.proofs.SoFar.{at_index, names_long}
use Rattle.plan_walk.proofs.Making.{stand_low, made_more, numbers_more}
use Rattle.plan_walk.proofs.graph.nodes_of.Goals as goal

pub join-requires : goal.join-requires
join-requires c =
    let node = c.in_ok-node.node in
    subst (λ k. AllByRecursion (λ q. q < k) node.ups.items) (ap length (c.loop-name.invariant.placed ∙ sym c.loop-name.invariant.made.named) ∙ names_long c.loop-name.nodes.items)
    (stand_low c.loop-name.places node.ups.items (parents (records c.args.job.now.cells) node.name) c.in_ok-node.ensures.keyed.stand)

pub loop-name-preserved : goal.loop-name-preserved
loop-name-preserved c =
    let i = c.loop-name.name-index in
    let name = c.name-item.result in
    let node = c.in_ok-node.node in
    let at : slice_get c.args.names.now i ≡ Some name = at_index c.args.names.now i name name c.loop-name-test.true c.name-item.is in
    record {
      made = made_more c.args.job.now.cells c.args.names.now i name c.loop-name.nodes.items c.join.new.nodes.items node c.requires.distinct at c.loop-name.invariant.made
          (subst (λ ns. IsNew c.args.job.now.cells ns name node) c.loop-name.invariant.placed c.in_ok-node.ensures) c.in_ok-join.ensures;
      placed = numbers_more c.args.names.now c.loop-name.places c.number.new.self i c.in_ok-number.field-0 name c.requires.distinct at c.loop-name.invariant.placed c.in_ok-number.ensures.stands c.in_ok-number.ensures.grows;
    }
