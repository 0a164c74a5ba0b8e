use Rattle.std.proofs.Common.{sym, subst}
use Rattle.scenario_rules.specs.Steps.{all_put}
use Rattle.scenario_merge.specs.Grown.{grown, IsForest, IsAsBefore}
use Rattle.scenario_merge.proofs.ForestLaws.{Entries, on_err, is_ready, as_before, after_changes_of}
use Rattle.scenario_merge.proofs.forest.Forest.load.Goals as goal

pub changed_rows-requires-clause-held : goal.changed_rows-requires-clause-held
changed_rows-requires-clause-held c = c.self.invariant.held c.args.name.now c.in-Some.held.now (sym c.in-Some.ensures.value)

pub changed_rows-requires-clause-ready : goal.changed_rows-requires-clause-ready
changed_rows-requires-clause-ready c =
    is_ready c.self.inside.scenarios.entries c.self.inside.store c.args.self.now c.args.point c.is_root-root.result c.args.name.now c.in-Some.held.now c.self.view_is c.self.invariant
    (sym c.in-Some.ensures.value) c.is_root-root.ensures c.requires.older

pub invariant_of-self : goal.invariant_of-self
invariant_of-self c =
    (as_before c.self.inside.scenarios.entries c.self.inside.store c.changed_rows.new.store c.args.self.now c.args.point c.self.view_is c.self.invariant c.changed_rows.ensures.keeps c.requires.older).0

pub returns-in_err-new-clause-err : goal.returns-in_err-new-clause-err
returns-in_err-new-clause-err c =
    on_err c.from_residual.result
    (as_before c.self.inside.scenarios.entries c.self.inside.store c.changed_rows.new.store c.args.self.now c.args.point c.self.view_is c.self.invariant c.changed_rows.ensures.keeps c.requires.older).1

pub invariant_of-self-in_err-put_in : goal.invariant_of-self-in_err-put_in
invariant_of-self-in_err-put_in c =
    subst (λ (e : Entries). IsForest e c.changed_rows.new.store) (sym c.in_err-put_in.ensures.err)
    (as_before c.self.inside.scenarios.entries c.self.inside.store c.changed_rows.new.store c.args.self.now c.args.point c.self.view_is c.self.invariant c.changed_rows.ensures.keeps c.requires.older).0

pub returns-in_err-put_in-clause-err : goal.returns-in_err-put_in-clause-err
returns-in_err-put_in-clause-err c =
    on_err c.from_residual-in_err-put_in.result
    (subst (λ (e : Entries). IsAsBefore c.args.self.now (grown e c.changed_rows.new.store)) (sym c.in_err-put_in.ensures.err)
    (as_before c.self.inside.scenarios.entries c.self.inside.store c.changed_rows.new.store c.args.self.now c.args.point c.self.view_is c.self.invariant c.changed_rows.ensures.keeps c.requires.older).1)

pub invariant_of-self-2 : goal.invariant_of-self-2
invariant_of-self-2 c =
    (after_changes_of c.self.inside.scenarios.entries c.put_in.new.map.entries c.self.inside.store c.changed_rows.new.store c.args.self.now c.args.point c.is_root-root.result c.args.name.now
    (all_put c.args.rows.now) c.in-Some.held.now c.in_ok-new.new c.self.view_is c.self.invariant (sym c.in-Some.ensures.value) c.is_root-root.ensures c.in_ok-new.ensures.changed
    c.changed_rows.ensures.keeps c.requires.older c.requires.whole c.in_ok-put_in.ensures.ok).0

pub returns-clause-ok : goal.returns-clause-ok
returns-clause-ok c =
    (after_changes_of c.self.inside.scenarios.entries c.put_in.new.map.entries c.self.inside.store c.changed_rows.new.store c.args.self.now c.args.point c.is_root-root.result c.args.name.now
    (all_put c.args.rows.now) c.in-Some.held.now c.in_ok-new.new c.self.view_is c.self.invariant (sym c.in-Some.ensures.value) c.is_root-root.ensures c.in_ok-new.ensures.changed
    c.changed_rows.ensures.keeps c.requires.older c.requires.whole c.in_ok-put_in.ensures.ok).1
