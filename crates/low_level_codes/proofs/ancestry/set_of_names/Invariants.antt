use Rattle.std.proofs.Common.{◌≡◌, ◌<◌, ℕ, true}
use Rattle.std.specs.Prelude.{slice_get, Some}
use Rattle.plan_schema.specs.declared.name.Name.{Name}
use Rattle.low_level_codes.specs.Graphs.{marked}
use Rattle.low_level_codes.specs.Levels.{are_ascending}
use Rattle.low_level_codes.specs.Numbers.{holds}
use Rattle.low_level_codes.proofs.ancestry.set_of_names.Given as goal

abbrev pub invariant-loop-place : goal.invariant-loop-place
invariant-loop-place l = record {
  has : (k : ℕ) (n : Name) → k < l.place → slice_get l.names k ≡ Some n → marked l.seen k ≡ true → holds l.found.keys n ≡ true;
  only : (n : Name) → holds l.found.keys n ≡ true → (k : ℕ) × (slice_get l.names k ≡ Some n) × (marked l.seen k ≡ true);
  order : are_ascending l.found.keys ≡ true;
}
