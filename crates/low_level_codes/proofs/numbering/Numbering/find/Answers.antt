use Rattle.std.proofs.Common.{rules, ◌≡◌, subst, true}
use Rattle.std.specs.Prelude.{nat_eq, MatchOption, Some, slice_get}
use Rattle.std.specs.Cmp.Lexicographic.{pointwise}
use Rattle.plan_schema.specs.declared.name.Name.{Name}
use Rattle.low_level_codes.specs.Numbers.{Lacks}
use Rattle.low_level_codes.proofs.Numbered.{found}
use Rattle.low_level_codes.proofs.numbering.Numbering.find.Goals as goal

itself : (a : Name) → pointwise nat_eq a a ≡ true
itself a = search rules

pub returns : goal.returns
returns c =
    subst (λ ns. MatchOption c.get_index_of.result (Lacks ns c.args.name.now) (λ i. slice_get ns i ≡ Some c.args.name.now)) c.self.view_is
    (found itself c.args.name.now c.self.inside.names.keys c.get_index_of.result c.get_index_of.ensures.index c.get_index_of.ensures.found)
