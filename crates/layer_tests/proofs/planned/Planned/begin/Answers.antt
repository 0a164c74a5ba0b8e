use Rattle.std.proofs.Common.{sym, subst}
use Rattle.version_rules.specs.Ids.{WorldIds, AreOlder}
use Rattle.version_rules.proofs.Older.{begin_older}
use Rattle.layer_tests.proofs.planned.Planned.begin.Goals as goal

pub invariant_of-result : goal.invariant_of-result
invariant_of-result c = record { older = subst (λ (ids : WorldIds). AreOlder 1 ids) (sym c.in_ok-forest.ensures.ids) (begin_older c.in_ok-contents.contents) }
