use Rattle.std.proofs.Common.{◌∙◌, sym, subst, ap}
use Rattle.std.specs.BTreeMap.{insert_entry}
use Rattle.plan_schema.specs.Key.{name_cmp}
use Rattle.version_rules.specs.Ids.{ScenarioIds}
use Rattle.scenario_merge.specs.Grown.{Grown, grown, ids_in, IsForest, IsAsBefore}
use Rattle.version_rules.specs.Ids.{AreOlder}
use Rattle.scenario_merge.proofs.ForestLaws.{Entries, on_err, ids_at, as_before}
use Rattle.scenario_merge.proofs.MergeLaws.{updated}
use Rattle.scenario_merge.proofs.forest.Forest.update.Goals as goal

pub lay_all-requires-clause-above : goal.lay_all-requires-clause-above
lay_all-requires-clause-above c = c.self.invariant.held c.in-Some-parent.parent c.in-Some-get.above.now (sym c.in-Some-get.ensures.value)

pub lay_all-requires-clause-own : goal.lay_all-requires-clause-own
lay_all-requires-clause-own c = (c.self.invariant.held c.args.name.now c.in-Some.child.now (sym c.in-Some.ensures.value)).own_ordered

pub lay_all-requires-clause-older : goal.lay_all-requires-clause-older
lay_all-requires-clause-older c = λ cell id is.
    let there = subst (λ (f : Grown). AreOlder c.args.point (ids_in f)) (sym c.self.view_is) c.requires.older in
    there.contents c.in-Some-parent.parent cell id (ap (λ (i : ScenarioIds). i.contents cell) (ids_at c.self.inside.scenarios.entries c.in-Some-parent.parent c.in-Some-get.above.now (sym c.in-Some-get.ensures.value)) ∙ is)

pub invariant_of-self : goal.invariant_of-self
invariant_of-self c = (as_before c.self.inside.scenarios.entries c.self.inside.store c.lay_all.new.store c.args.self.now c.args.point c.self.view_is c.self.invariant c.lay_all.ensures.keeps c.requires.older).0

pub returns-in_err-laid-clause-err : goal.returns-in_err-laid-clause-err
returns-in_err-laid-clause-err c =
    on_err c.from_residual.result (as_before c.self.inside.scenarios.entries c.self.inside.store c.lay_all.new.store c.args.self.now c.args.point c.self.view_is c.self.invariant c.lay_all.ensures.keeps c.requires.older).1

pub invariant_of-self-in_err-new : goal.invariant_of-self-in_err-new
invariant_of-self-in_err-new c = (as_before c.self.inside.scenarios.entries c.self.inside.store c.lay_all.new.store c.args.self.now c.args.point c.self.view_is c.self.invariant c.lay_all.ensures.keeps c.requires.older).0

pub returns-in_err-new-clause-err : goal.returns-in_err-new-clause-err
returns-in_err-new-clause-err c =
    on_err c.from_residual-in_err-new.result (as_before c.self.inside.scenarios.entries c.self.inside.store c.lay_all.new.store c.args.self.now c.args.point c.self.view_is c.self.invariant c.lay_all.ensures.keeps c.requires.older).1

pub invariant_of-self-in_err-put_in : goal.invariant_of-self-in_err-put_in
invariant_of-self-in_err-put_in c =
    subst (λ (e : Entries). IsForest e c.lay_all.new.store) (sym c.in_err-put_in.ensures.err)
    (as_before c.self.inside.scenarios.entries c.self.inside.store c.lay_all.new.store c.args.self.now c.args.point c.self.view_is c.self.invariant c.lay_all.ensures.keeps c.requires.older).0

pub returns-in_err-put_in-clause-err : goal.returns-in_err-put_in-clause-err
returns-in_err-put_in-clause-err c =
    on_err c.from_residual-in_err-put_in.result
    (subst (λ (e : Entries). IsAsBefore c.args.self.now (grown e c.lay_all.new.store)) (sym c.in_err-put_in.ensures.err)
    (as_before c.self.inside.scenarios.entries c.self.inside.store c.lay_all.new.store c.args.self.now c.args.point c.self.view_is c.self.invariant c.lay_all.ensures.keeps c.requires.older).1)

pub invariant_of-self-2 : goal.invariant_of-self-2
invariant_of-self-2 c =
    (updated c.self.inside.scenarios.entries c.put_in.new.map.entries c.self.inside.store c.lay_all.new.store c.args.self.now c.args.point c.args.name.now c.in-Some-parent.parent c.in-Some-get.above.now c.in-Some.child.now
    c.in_ok-laid.laid c.self.view_is c.self.invariant (sym c.in-Some.ensures.value) c.in-Some-parent.is (sym c.in-Some-get.ensures.value) c.in_ok-laid.ensures.laid c.lay_all.ensures.keeps c.requires.older c.requires.whole
    (c.in_ok-put_in.ensures.ok ∙ ap (insert_entry name_cmp c.self.inside.scenarios.entries c.args.name.now) c.in_ok-new.ensures)).0

pub returns-clause-ok : goal.returns-clause-ok
returns-clause-ok c =
    (updated c.self.inside.scenarios.entries c.put_in.new.map.entries c.self.inside.store c.lay_all.new.store c.args.self.now c.args.point c.args.name.now c.in-Some-parent.parent c.in-Some-get.above.now c.in-Some.child.now
    c.in_ok-laid.laid c.self.view_is c.self.invariant (sym c.in-Some.ensures.value) c.in-Some-parent.is (sym c.in-Some-get.ensures.value) c.in_ok-laid.ensures.laid c.lay_all.ensures.keeps c.requires.older c.requires.whole
    (c.in_ok-put_in.ensures.ok ∙ ap (insert_entry name_cmp c.self.inside.scenarios.entries c.args.name.now) c.in_ok-new.ensures)).1
