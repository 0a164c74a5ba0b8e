use Rattle.std.proofs.Common.{◌∙◌}
use Rattle.std.specs.Ordering.{nat_cmp}
use Rattle.std.specs.Cmp.Lexicographic.{slice_cmp}
use Rattle.plan_schema.proofs.Compared.{as_names}
use Rattle.plan_schema.proofs.name.NameOrd.cmp.Goals as goal

pub returns : goal.returns
returns c =
    c.compare.ensures
    ∙ as_names c.self.inside.cells c.other.inside.cells c.self.inside.len c.other.inside.len c.self.invariant c.other.invariant
    ∙ (λ i. slice_cmp nat_cmp (c.self.view_is i) (c.other.view_is i))
