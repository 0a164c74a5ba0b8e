use Rattle.std.proofs.Common.{◌∙◌, sym, ap}
use Rattle.std.specs.BTreeMap.{insert_entry}
use Rattle.plan_schema.specs.Key.{name_cmp}
use Rattle.scenario_merge.proofs.BranchLaws.{branch_done}
use Rattle.scenario_merge.proofs.forest.Forest.branch.Goals as goal

pub invariant_of-self-2 : goal.invariant_of-self-2
invariant_of-self-2 c =
    (branch_done c.self.inside.scenarios.entries c.put_in.new.map.entries c.self.inside.store c.args.self.now c.args.point c.args.user.now c.args.parent.now c.args.child.now c.in-Some.above.now c.self.view_is c.self.invariant
    (sym c.in-Some.ensures.value) c.requires.whole (c.in_ok-put_in.ensures.ok ∙ ap (insert_entry name_cmp c.self.inside.scenarios.entries c.args.child.now) c.in_ok-new.ensures)).0

pub returns-clause-ok : goal.returns-clause-ok
returns-clause-ok c =
    (branch_done c.self.inside.scenarios.entries c.put_in.new.map.entries c.self.inside.store c.args.self.now c.args.point c.args.user.now c.args.parent.now c.args.child.now c.in-Some.above.now c.self.view_is c.self.invariant
    (sym c.in-Some.ensures.value) c.requires.whole (c.in_ok-put_in.ensures.ok ∙ ap (insert_entry name_cmp c.self.inside.scenarios.entries c.args.child.now) c.in_ok-new.ensures)).1
