-- Names by their places, and bills as graphs of places.
use Rattle.std.specs.Prelude.{◌≡◌, ℕ, ◌<◌, ◌⊎◌, List, [], ◌∷◌, ◌++◌, Option, Some, None, Bool, true, length, slice_get, map}
use Rattle.std.specs.List.{list_any}
use Rattle.std.specs.Ordering.{nat_cmp, ordering_then, is_eq, is_lt}
use Rattle.std.specs.declared.cmp.Ordering.{Ordering}
use Rattle.plan_schema.specs.Key.{name_eq, name_cmp}
use Rattle.plan_schema.specs.declared.name.Name.{Name}
use Rattle.planning_rules.specs.Bills.{parents}
use Rattle.low_level_codes.specs.Levels.{as_records, are_ascending, are_by_level}
use Rattle.low_level_codes.specs.Graphs.{at, marked, level_at, AreWithin, AreTurned}

-- a name stands in a list
abbrev pub holds : List Name → Name → Bool
holds ns n = list_any (λ m. name_eq n m) ns

-- these are the names at the marked places, in ascending order, each once
pub record AreMarked (ns : List Name) (seen : List Bool) (found : List Name) : Type 0 where
  pub has : (k : ℕ) (n : Name) → slice_get ns k ≡ Some n → marked seen k ≡ true → holds found n ≡ true
  pub only : (n : Name) → holds found n ≡ true → (k : ℕ) × (slice_get ns k ≡ Some n) × (marked seen k ≡ true)
  pub order : are_ascending found ≡ true

-- a name stands after the last one, if there is one
abbrev pub goes_after : Option Name → Name → Bool
goes_after None n = true
goes_after (Some last) n = is_lt (name_cmp last n)

-- a name has no place
abbrev pub Lacks : List Name → Name → Type 0
Lacks ns n = (k : ℕ) → slice_get ns k ≡ Some n → ⊥

-- no name has two places
abbrev pub AreApart : List Name → Type 0
AreApart ns = (i k : ℕ) (n : Name) → slice_get ns i ≡ Some n → slice_get ns k ≡ Some n → i ≡ k

-- a name gets a place where it has none
abbrev pub Numbers : List Name → Name → List Name → Type 0
Numbers old n new = (new ≡ old) ⊎ ((new ≡ old ++ n ∷ []) × Lacks old n)

-- names keep their places
abbrev pub Keeps : List Name → List Name → Type 0
Keeps old new = (k : ℕ) (n : Name) → slice_get old k ≡ Some n → slice_get new k ≡ Some n

-- at these places stand these names
abbrev pub StandAt : List Name → List ℕ → List Name → Type 0
StandAt ns [] [] = Unit {0}
StandAt ns [] (p ∷ ps) = ⊥
StandAt ns (q ∷ qs) [] = ⊥
StandAt ns (q ∷ qs) (p ∷ ps) = (slice_get ns q ≡ Some p) × StandAt ns qs ps

-- above the place of each name of some bills stand its parents, and below it its components
pub record IsGraph (bills : List (Name × Name)) (ns : List Name) (ups downs : List (List ℕ)) : Type 0 where
  pub whole : length ups ≡ length ns
  pub below : length downs ≡ length ns
  pub apart : AreApart ns
  pub stand : (i : ℕ) (n : Name) → slice_get ns i ≡ Some n → StandAt ns (at ups i) (parents (as_records bills) n)
  pub absent : (n : Name) → Lacks ns n → parents (as_records bills) n ≡ []
  pub within : AreWithin (length ns) ups
  pub under : AreWithin (length ns) downs
  pub turned : AreTurned ups downs
  pub back : AreTurned downs ups

-- one of some places has no level
abbrev pub LacksLevel : List (Option ℕ) → List ℕ → Type 0
LacksLevel levels places = (i : ℕ) × (q : ℕ) × (slice_get places i ≡ Some q) × (level_at levels q ≡ None)

-- pairs of a level and a name, in order of both
abbrev pub pair_cmp : ℕ × Name → ℕ × Name → Ordering
pair_cmp a b = ordering_then (nat_cmp a.0 b.0) (name_cmp a.1 b.1)

abbrev pub holds_pair : List (ℕ × Name) → ℕ × Name → Bool
holds_pair found pair = list_any (λ other. is_eq (pair_cmp pair other)) found

-- each of some names, up to a number of them, stands with the level of its place, and none else
pub record HoldsUpTo (levels : List (Option ℕ)) (places : List ℕ) (names : List Name) (count : ℕ) (found : List (ℕ × Name)) : Type 0 where
  pub has : (i q : ℕ) (n : Name) → i < count → slice_get places i ≡ Some q → slice_get names i ≡ Some n
      → (l : ℕ) × (level_at levels q ≡ Some l) × (holds_pair found (l, n) ≡ true)
  pub only : (l : ℕ) (n : Name) → holds_pair found (l, n) ≡ true
      → (i : ℕ) × (q : ℕ) × (slice_get places i ≡ Some q) × (slice_get names i ≡ Some n) × (level_at levels q ≡ Some l)
  pub order : are_by_level (map (λ pair. (pair.1, pair.0)) found) ≡ true

abbrev pub HoldsLevels : List (Option ℕ) → List ℕ → List Name → List (ℕ × Name) → Type 0
HoldsLevels levels places names found = HoldsUpTo levels places names (length names) found
