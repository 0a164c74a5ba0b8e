-- Graphs of places: above each place stand others.
use Rattle.std.specs.Prelude.{◌≡◌, ℕ, zero, suc, ◌<◌, ◌⊎◌, List, [], ◌∷◌, Bool, true, false, Option, None, map, length}
use Rattle.std.specs.List.{AllByRecursion}
use Rattle.std.specs.declared.vec.Vec.{Vec}
use Rattle.planning_rules.specs.Bills.{above_all}

-- the lists that vectors hold
module _ {Z : Type 0} where
  abbrev pub shown : List (Vec ℕ Z) → List (List ℕ)
  shown vectors = map (λ v. v.items) vectors

-- the list at a place
abbrev pub at : List (List ℕ) → ℕ → List ℕ
at [] i = []
at (xs ∷ lists) zero = xs
at (xs ∷ lists) (suc i) = at lists i

-- whether a place is marked
abbrev pub marked : List Bool → ℕ → Bool
marked [] i = false
marked (b ∷ bs) zero = b
marked (b ∷ bs) (suc i) = marked bs i

-- the level of a place
abbrev pub level_at : List (Option ℕ) → ℕ → Option ℕ
level_at [] i = None
level_at (l ∷ ls) zero = l
level_at (l ∷ ls) (suc i) = level_at ls i

-- a place stands in a list
abbrev pub IsAt : ℕ → List ℕ → Type 0
IsAt q [] = ⊥
IsAt q (k ∷ ks) = (k ≡ q) ⊎ IsAt q ks

-- each place of each list is one of so many
abbrev pub AreWithin : ℕ → List (List ℕ) → Type 0
AreWithin n lists = AllByRecursion (AllByRecursion (λ q. q < n)) lists

-- what is marked holds these places, and with each place those above it
pub record IsUpward (ups : List (List ℕ)) (from : List ℕ) (seen : ℕ → Bool) : Type 0 where
  pub begins : (q : ℕ) → IsAt q from → seen q ≡ true
  pub closed : (i q : ℕ) → seen i ≡ true → IsAt q (at ups i) → seen q ≡ true

-- and nothing else: it is part of all that does
pub record IsReach (ups : List (List ℕ)) (from : List ℕ) (seen : List Bool) : Type 0 where
  pub whole : length seen ≡ length ups
  pub upward : IsUpward ups from (marked seen)
  pub least : (p : ℕ → Bool) → IsUpward ups from p → (q : ℕ) → marked seen q ≡ true → p q ≡ true

-- each place's level is one above the greatest of those above it
pub record HasSteps (ups : List (List ℕ)) (levels : List (Option ℕ)) : Type 0 where
  pub whole : length levels ≡ length ups
  pub each : (q : ℕ) → q < length ups → level_at levels q ≡ above_all (map (level_at levels) (at ups q))

-- what stands above a place has it below
abbrev pub AreTurned : List (List ℕ) → List (List ℕ) → Type 0
AreTurned ups downs = (q i : ℕ) → IsAt q (at ups i) → IsAt i (at downs q)
