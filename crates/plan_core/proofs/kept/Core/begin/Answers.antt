use Rattle.std.proofs.Common.{List, ◌∙◌, ap}
use Rattle.plan_schema.specs.declared.change.Entry.{Entry}
use Rattle.plan_schema.specs.Contents.{Contents}
use Rattle.plan_core.specs.State.{state_of, no_tally}
use Rattle.plan_core.proofs.Begun.{begun}
use Rattle.plan_core.proofs.kept.Core.begin.Goals as goal

pub invariant_of-result : goal.invariant_of-result
invariant_of-result c =
    begun c.args.contents c.with-began.result.base c.with-began.result.earlier c.new-journal.result.entries c.in_ok-memo.memo c.args.most no_tally c.in_ok-forest.forest
    (ap (λ (p : Contents × List Entry). p.0) c.with-began.ensures) (ap (λ (p : Contents × List Entry). p.1) c.with-began.ensures ∙ c.new-journal.ensures) c.new-journal.ensures c.in_ok-memo.ensures
    c.requires.whole c.requires.limits c.in_ok-forest.ensures.world c.in_ok-forest.ensures.ids

pub returns : goal.returns
returns c = λ i. state_of
    (ap (λ (p : Contents × List Entry). p.0) c.with-began.ensures i) ((ap (λ (p : Contents × List Entry). p.1) c.with-began.ensures ∙ c.new-journal.ensures) i) (c.new-journal.ensures i) (c.in_ok-memo.ensures i) no_tally
