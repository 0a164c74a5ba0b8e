use Rattle.std.proofs.Common.{◌≡◌, ◌<◌, ℕ, true}
use Rattle.std.specs.Prelude.{slice_get, Some}
use Rattle.plan_schema.specs.declared.name.Name.{Name}
use Rattle.low_level_codes.specs.Graphs.{marked}
use Rattle.low_level_codes.specs.Levels.{are_ascending}
use Rattle.low_level_codes.specs.Numbers.{holds}
use Rattle.low_level_codes.proofs.InOrder.{EndsAt}
use Rattle.low_level_codes.proofs.ancestry.names_in_order.Given as goal

abbrev pub invariant-loop-place : goal.invariant-loop-place
invariant-loop-place l = record {
  has : (k : ℕ) (n : Name) → k < l.place → slice_get l.names k ≡ Some n → marked l.seen k ≡ true → holds l.found.items n ≡ true;
  only : (n : Name) → holds l.found.items n ≡ true → (k : ℕ) × (slice_get l.names k ≡ Some n) × (marked l.seen k ≡ true);
  ends : EndsAt l.last l.found.items;
  order : are_ascending l.found.items ≡ true;
}
