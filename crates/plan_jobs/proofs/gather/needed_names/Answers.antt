use Rattle.std.proofs.Common.{◌≡◌, ◌+◌, ◌<◌, length, arith, List, sym, ◌∙◌, subst, false}
use Rattle.plan_schema.specs.declared.name.Name.{Name}
use Rattle.plan_schema.specs.declared.change.CellName.TheVariants as names
use Rattle.plan_jobs.specs.Names.{has_name}
use Rattle.plan_jobs.specs.Collects.{cells_by, records_by}
use Rattle.plan_jobs.proofs.Gathering.{Gathering, pending, gather_passed, gather_visited, gather_ends, visited_less, none_left}
use Rattle.plan_jobs.proofs.gather.needed_names.Goals as goal

pub loop-name-smaller-in-Continue-branch-3 : goal.loop-name-smaller-in-Continue-branch-3
loop-name-smaller-in-Continue-branch-3 c =
    let w = records_by c.args.store.now c.args.ids.now in
    let cells = cells_by c.args.store.now c.args.ids.now in
    let old = has_name c.loop-name.names in
    let new = has_name c.visit.new.names in
    let fresh : old (names.Part c.in-Some.name) ≡ false = sym c.has.ensures ∙ c.if-not-has.true in
    subst (λ (t : List Name). length t + pending new cells < length c.loop-name.todo.items + pending old cells) (sym c.in_ok-visit.ensures.todo)
    (visited_less old new w c.in-Some.name cells (λ i. w) c.in_ok-visit.ensures.names fresh c.requires.whole.own c.loop-name.todo.items c.pop.new.self.items c.in-Some.ensures.items)

pub loop-name-preserved-in-Continue-branch-3 : goal.loop-name-preserved-in-Continue-branch-3
loop-name-preserved-in-Continue-branch-3 c =
    let w = records_by c.args.store.now c.args.ids.now in
    let old = has_name c.loop-name.names in
    let new = has_name c.visit.new.names in
    let g = subst (Gathering w c.args.part old) c.in-Some.ensures.items c.loop-name.invariant.gathering in
    record {
      gathering = subst (Gathering w c.args.part new) (sym c.in_ok-visit.ensures.todo)
          (gather_visited w c.args.part old c.pop.new.self.items c.in-Some.name g new c.in_ok-visit.ensures.names);
      ordered = c.in_ok-visit.ensures.ordered;
    }

pub loop-name-preserved : goal.loop-name-preserved
loop-name-preserved c =
    let w = records_by c.args.store.now c.args.ids.now in
    let old = has_name c.loop-name.names in
    let g = subst (Gathering w c.args.part old) c.in-Some.ensures.items c.loop-name.invariant.gathering in
    record {
      gathering = gather_passed w c.args.part old c.pop.new.self.items c.in-Some.name g (sym c.has.ensures ∙ c.if-not-has.false);
      ordered = c.loop-name.invariant.ordered;
    }

pub returns-clause-names : goal.returns-clause-names
returns-clause-names c =
    let w = records_by c.args.store.now c.args.ids.now in
    let has = has_name c.loop-name.names in
    let none = c.in_default.ensures.cases in
    let zero : length c.loop-name.todo.items ≡ 0 = omega (arith, none.0) in
    gather_ends w c.args.part has (subst (Gathering w c.args.part has) (none_left c.loop-name.todo.items zero) c.loop-name.invariant.gathering)
