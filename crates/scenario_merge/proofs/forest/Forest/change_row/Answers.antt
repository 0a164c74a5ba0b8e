use Rattle.std.proofs.Common.{sym, [], ◌∷◌}
use Rattle.scenario_merge.proofs.ForestLaws.{is_ready}
use Rattle.scenario_merge.proofs.Written.{written}
use Rattle.scenario_merge.proofs.forest.Forest.change_row.Goals as goal

pub change_row-requires-clause-held : goal.change_row-requires-clause-held
change_row-requires-clause-held c = c.self.invariant.held c.args.name.now c.in-Some.held.now (sym c.in-Some.ensures.value)

pub change_row-requires-clause-ready : goal.change_row-requires-clause-ready
change_row-requires-clause-ready c =
    is_ready c.self.inside.scenarios.entries c.self.inside.store c.args.self.now c.args.point c.is_root-root.result c.args.name.now c.in-Some.held.now c.self.view_is c.self.invariant
    (sym c.in-Some.ensures.value) c.is_root-root.ensures c.requires.older

pub invariant_of-self-2 : goal.invariant_of-self-2
invariant_of-self-2 c =
    let new = c.change_row.new.held in
    (written c.change_row.result c.self.inside.scenarios.entries (c.get_mut.follows.lender new).entries c.self.inside.store c.change_row.new.store c.args.self.now c.args.point c.is_root-root.result
    c.args.name.now ((c.args.key.now, c.args.value.now) ∷ []) c.in-Some.held.now new c.self.view_is c.self.invariant (sym c.in-Some.ensures.value) c.is_root-root.ensures c.change_row.ensures.changed
    c.change_row.ensures.err c.change_row.ensures.keeps c.requires.older c.requires.whole (c.get_mut.follows.holds new).0).0

pub returns-clause-ok : goal.returns-clause-ok
returns-clause-ok c =
    let new = c.change_row.new.held in
    (written c.change_row.result c.self.inside.scenarios.entries (c.get_mut.follows.lender new).entries c.self.inside.store c.change_row.new.store c.args.self.now c.args.point c.is_root-root.result
    c.args.name.now ((c.args.key.now, c.args.value.now) ∷ []) c.in-Some.held.now new c.self.view_is c.self.invariant (sym c.in-Some.ensures.value) c.is_root-root.ensures c.change_row.ensures.changed
    c.change_row.ensures.err c.change_row.ensures.keeps c.requires.older c.requires.whole (c.get_mut.follows.holds new).0).1

pub returns-clause-err : goal.returns-clause-err
returns-clause-err c =
    let new = c.change_row.new.held in
    (written c.change_row.result c.self.inside.scenarios.entries (c.get_mut.follows.lender new).entries c.self.inside.store c.change_row.new.store c.args.self.now c.args.point c.is_root-root.result
    c.args.name.now ((c.args.key.now, c.args.value.now) ∷ []) c.in-Some.held.now new c.self.view_is c.self.invariant (sym c.in-Some.ensures.value) c.is_root-root.ensures c.change_row.ensures.changed
    c.change_row.ensures.err c.change_row.ensures.keeps c.requires.older c.requires.whole (c.get_mut.follows.holds new).0).2
