-- Stories: lists of entries, each with the number of its maker.
use Rattle.std.specs.Prelude.{◌≡◌, ◌⊎◌, ℕ, ◌==◌, nat_lt, cond, List, [], ◌∷◌, ◌++◌, length, filter, drop}

module _ {E : Type 0} where
  -- the entries that this number made, in their order
  abbrev pub entries_of : ℕ → List (ℕ × E) → List (ℕ × E)
  entries_of k story = filter (λ e. e.0 == k) story

  -- the second list begins with the first
  abbrev pub Begins : List (ℕ × E) → List (ℕ × E) → Type 0
  Begins front whole = (rest : List (ℕ × E)) × (whole ≡ front ++ rest)

  -- the longer of two lists, and the other one
  abbrev pub longer : List (ℕ × E) → List (ℕ × E) → List (ℕ × E)
  longer xs ys = cond (nat_lt (length xs) (length ys)) ys xs

  abbrev pub shorter : List (ℕ × E) → List (ℕ × E) → List (ℕ × E)
  shorter xs ys = cond (nat_lt (length xs) (length ys)) xs ys

  -- what the second list has past the first
  abbrev pub past : List (ℕ × E) → List (ℕ × E) → List (ℕ × E)
  past front whole = drop (length front) whole

  -- each list that is kept with a number has all the entries of this number in the story
  abbrev pub AreKept : List (ℕ × E) → List (ℕ × List (ℕ × E)) → Type 0
  AreKept story [] = Unit {0}
  AreKept story (kept ∷ more) = (entries_of kept.0 story ≡ kept.1) × AreKept story more

  -- nothing, or one entry made by this number
  abbrev pub Added : ℕ → List (ℕ × E) → Type 0
  Added number more = (more ≡ []) ⊎ ((e : E) × (more ≡ (number, e) ∷ []))

  -- the second list is the first, and n more entries: none, or one made by this number
  abbrev pub IsAdded : ℕ → ℕ → List (ℕ × E) → List (ℕ × E) → Type 0
  IsAdded number n front whole = (more : List (ℕ × E)) × (whole ≡ front ++ more) × (length more ≡ n) × Added number more
