-- A name among those of nodes.
use Rattle.std.proofs.Common.{◌≡◌, ℕ, suc, List, [], ◌∷◌, length, refl, ap, arith, Bool, true, false, cond}
use Rattle.std.specs.Prelude.{Option, Some, None, slice_get}
use Rattle.plan_schema.specs.declared.name.Name.{Name}
use Rattle.plan_schema.specs.Key.{name_eq}
use Rattle.planning_rules.specs.Plan.{Known}
use Rattle.planning_rules.proofs.LevelLaws.{one_name}
use Rattle.walk_rules.specs.Walks.{known_at}
use Rattle.plan_walk.specs.Places.{parts_of}

-- of a name that isn't there nothing is known
pub unknown_name : (ns : List Name) (ks : List (Option Known)) (n : Name) → ((k : ℕ) → slice_get ns k ≡ Some n → ⊥) → known_at (parts_of ns ks) n ≡ None
unknown_name [] ks n h = refl
unknown_name (m ∷ ms) [] n h = refl
unknown_name (m ∷ ms) (k ∷ ks) n h = by_test (name_eq m n) refl (unknown_name ms ks n (λ j at. h (suc j) at))
  where
    by_test : (b : Bool) → name_eq m n ≡ b → known_at (parts_of ms ks) n ≡ None → cond b k (known_at (parts_of ms ks) n) ≡ None
    by_test true e again = absurd (h 0 (ap Some (one_name m n e)))
    by_test false e again = again

pub parts_long : (ns : List Name) (ks : List (Option Known)) → length ks ≡ length ns → length (parts_of ns ks) ≡ length ns
parts_long [] ks l = refl
parts_long (n ∷ ns) [] l = absurd (omega arith)
parts_long (n ∷ ns) (k ∷ ks) l = let short : length ks ≡ length ns = omega arith in ap suc (parts_long ns ks short)
