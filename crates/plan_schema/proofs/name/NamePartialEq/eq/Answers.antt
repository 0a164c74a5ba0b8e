use Rattle.std.proofs.Common.{◌∙◌, ap, sym}
use Rattle.std.specs.Ordering.{nat_cmp, is_eq}
use Rattle.std.specs.Cmp.Lexicographic.{slice_cmp, texts_ties}
use Rattle.plan_schema.proofs.Compared.{as_names, tested}
use Rattle.plan_schema.proofs.name.NamePartialEq.eq.Goals as goal

pub returns : goal.returns
returns c =
    c.eq.ensures
    ∙ tested c.compare.result
    ∙ ap is_eq (c.compare.ensures
    ∙ as_names c.self.inside.cells c.other.inside.cells c.self.inside.len c.other.inside.len c.self.invariant c.other.invariant
    ∙ (λ i. slice_cmp nat_cmp (c.self.view_is i) (c.other.view_is i)))
    ∙ sym (texts_ties c.args.self.now c.args.other.now)
