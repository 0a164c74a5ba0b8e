use Rattle.std.proofs.Common.{◌≡◌, ℕ, map, ◌++◌}
use Rattle.plan_schema.specs.declared.name.Name.{Name}
use Rattle.low_level_codes.proofs.codes.turned.Given as goal

abbrev pub invariant-loop-pair : goal.invariant-loop-pair
invariant-loop-pair l = l.levels.items ++ map (λ (pair : ℕ × Name). (pair.1, pair.0)) l.pair-iterator ≡ map (λ (pair : ℕ × Name). (pair.1, pair.0)) l.found.keys
