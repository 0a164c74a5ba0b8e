-- Places that are above themselves.
use Rattle.std.specs.Prelude.{◌≡◌, ℕ, ◌<◌, ◌⊎◌, List, Bool, true, false, Option, Some, slice_get}
use Rattle.plan_schema.specs.declared.name.Name.{Name}
use Rattle.low_level_codes.specs.Graphs.{at, marked, level_at, IsReach}

-- what is reached from the places above a place has it
abbrev pub IsOwn : List (List ℕ) → ℕ → Type 0
IsOwn ups q = (seen : List Bool) × IsReach ups (at ups q) seen × (marked seen q ≡ true)

-- a place has a level from above or one from below, or what is reached from the places above it doesn't have it
abbrev pub IsNotOwn : List (List ℕ) → List (Option ℕ) → List (Option ℕ) → ℕ → Type 0
IsNotOwn ups levels heights q =
    ((l : ℕ) × (level_at levels q ≡ Some l)) ⊎ ((l : ℕ) × (level_at heights q ≡ Some l))
    ⊎ ((seen : List Bool) × IsReach ups (at ups q) seen × (marked seen q ≡ false))

-- the first places up to a number are not above themselves
pub record NoneOwn (ups : List (List ℕ)) (levels heights : List (Option ℕ)) (places : List ℕ) (count : ℕ) : Type 0 where
  pub none : (i q : ℕ) → i < count → slice_get places i ≡ Some q → IsNotOwn ups levels heights q

-- this is the name at the first of the places that are above themselves
pub record FirstOwn (ups : List (List ℕ)) (levels heights : List (Option ℕ)) (places : List ℕ) (names : List Name) (name : Name) : Type 0 where
  pub index : ℕ
  pub place : ℕ
  pub there : slice_get places index ≡ Some place
  pub named : slice_get names index ≡ Some name
  pub own : IsOwn ups place
  pub before : NoneOwn ups levels heights places index
