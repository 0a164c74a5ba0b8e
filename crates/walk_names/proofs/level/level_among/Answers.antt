use Rattle.std.proofs.Common.{◌∙◌, sym}
use Rattle.plan_schema.specs.Key.{name_eq}
use Rattle.std.specs.Cmp.Lexicographic.{texts_ties}
use Rattle.walk_names.proofs.Looking.{found_here, not_here}
use Rattle.walk_names.proofs.level.level_among.Goals as goal

pub returns-then-eq : goal.returns-then-eq
returns-then-eq c =
    let pair = c.loop-other-item.result in
    sym (found_here (name_eq c.args.name.now) c.args.levels.now c.loop-other.other-index pair pair c.loop-other-test.true c.loop-other-item.is c.loop-other.invariant
    (sym (texts_ties c.args.name.now pair.0) ∙ sym c.eq.ensures ∙ c.if-eq.true))

pub loop-other-preserved : goal.loop-other-preserved
loop-other-preserved c =
    let pair = c.loop-other-item.result in
    not_here (name_eq c.args.name.now) c.args.levels.now c.loop-other.other-index pair pair c.loop-other-test.true c.loop-other-item.is c.loop-other.invariant
    (sym (texts_ties c.args.name.now pair.0) ∙ sym c.eq.ensures ∙ c.if-eq.false)
