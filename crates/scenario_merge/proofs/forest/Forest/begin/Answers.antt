use Rattle.std.proofs.Common.{◌≡◌, ◌∙◌, sym, subst, ◌∷◌, [], List}
use Rattle.std.specs.BTreeMap.{insert_entry}
use Rattle.plan_schema.specs.Key.{name_cmp}
use Rattle.plan_schema.specs.declared.name.Name.{Name}
use Rattle.scenario_rules.specs.World.{root, begin_with}
use Rattle.version_rules.specs.Ids.{begin_ids}
use Rattle.scenario_cells.specs.declared.held.Held.{Held}
use Rattle.scenario_merge.specs.Grown.{IsForest, grown, ids_in}
use Rattle.scenario_merge.proofs.BeginLaws.{root_held, begun, begun_world, begun_ids}
use Rattle.scenario_merge.proofs.forest.Forest.begin.Goals as goal

pub invariant_of-result : goal.invariant_of-result
invariant_of-result c =
    let g = c.in_ok-grouped.grouped in
    let is : c.put_in.new.map.entries ≡ (root, root_held g.ids c.parts.result c.len.result) ∷ [] =
    c.in_ok-put_in.ensures.ok ∙ (λ i. insert_entry name_cmp (c.new-scenarios.ensures.empty i) (c.in-Some.ensures i) (c.in_ok-held.ensures i)) in
    subst (λ (es : List (Name × Held)). IsForest es g.store) (sym is)
    (begun c.args.contents.now g.store g.ids c.parts.result c.len.result c.requires.whole c.requires.limits c.in_ok-grouped.ensures c.parts.ensures c.len.ensures.count)

pub returns-clause-world : goal.returns-clause-world
returns-clause-world c =
    let g = c.in_ok-grouped.grouped in
    let is : c.put_in.new.map.entries ≡ (root, root_held g.ids c.parts.result c.len.result) ∷ [] =
    c.in_ok-put_in.ensures.ok ∙ (λ i. insert_entry name_cmp (c.new-scenarios.ensures.empty i) (c.in-Some.ensures i) (c.in_ok-held.ensures i)) in
    subst (λ (es : List (Name × Held)). (grown es g.store).world ≡ begin_with c.args.contents.now) (sym is)
    (begun_world c.args.contents.now g.store g.ids c.parts.result c.len.result c.requires.whole c.requires.limits c.in_ok-grouped.ensures c.parts.ensures c.len.ensures.count)

pub returns-clause-ids : goal.returns-clause-ids
returns-clause-ids c =
    let g = c.in_ok-grouped.grouped in
    let is : c.put_in.new.map.entries ≡ (root, root_held g.ids c.parts.result c.len.result) ∷ [] =
    c.in_ok-put_in.ensures.ok ∙ (λ i. insert_entry name_cmp (c.new-scenarios.ensures.empty i) (c.in-Some.ensures i) (c.in_ok-held.ensures i)) in
    subst (λ (es : List (Name × Held)). ids_in (grown es g.store) ≡ begin_ids c.args.contents.now) (sym is)
    (begun_ids c.args.contents.now g.store g.ids c.parts.result c.len.result c.requires.whole c.requires.limits c.in_ok-grouped.ensures c.parts.ensures c.len.ensures.count)
