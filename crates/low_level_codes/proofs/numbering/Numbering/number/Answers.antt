use Rattle.std.proofs.Common.{rules, ◌≡◌, true, subst, [], ◌∷◌, ◌++◌, if◌then◌else◌}
use Rattle.std.specs.List.{list_any}
use Rattle.std.specs.Prelude.{nat_eq}
use Rattle.std.specs.Cmp.Lexicographic.{pointwise}
use Rattle.plan_schema.specs.declared.name.Name.{Name}
use Rattle.low_level_codes.proofs.Numbered.{numbers}
use Rattle.low_level_codes.proofs.numbering.Numbering.number.Goals as goal

itself : (a : Name) → pointwise nat_eq a a ≡ true
itself a = search rules

pub returns-clause-grows : goal.returns-clause-grows
returns-clause-grows c = numbers (pointwise nat_eq) itself c.args.name c.args.self.now c.insert_full.new.self.keys
    (subst (λ old. c.insert_full.new.self.keys ≡ (if list_any (pointwise nat_eq c.args.name) old then old else (old ++ c.args.name ∷ []))) c.self.view_is c.in-Ok.ensures.keys)
