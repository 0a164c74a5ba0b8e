use Rattle.std.proofs.Common.{◌≡◌, suc, ◌+◌, sym, subst, arith, rules}
use Rattle.version_rules.specs.Ids.{WorldIds, AreOlder}
use Rattle.version_rules.proofs.Older.{next_older}
use Rattle.scenario_merge.specs.Grown.{ids_in}
use Rattle.layer_tests.proofs.planned.Planned.enter.Goals as goal

pub invariant_of-self : goal.invariant_of-self
invariant_of-self c =
    let next = c.in-Some.next in
    let old = c.args.self.now in
    let point : old.point + 1 ≡ next = search rules in
    let more : suc next ≡ next + 1 = omega arith in
    let before = subst (λ n. AreOlder n (ids_in old.forest)) point old.older in
    record {
      older = subst (λ n. AreOlder n (ids_in c.apply.new.self)) more
          (subst (λ (ids : WorldIds). AreOlder (suc next) ids) (sym c.in-Ok.ensures.ids) (next_older next old.forest.world (ids_in old.forest) c.in_ok-entry.entry.change before));
    }
