-- Rows of units, and the pieces that they are cut into.
use Rattle.std.specs.Prelude.{◌≡◌, ℕ, suc, ◌+◌, ◌-◌, ◌≤◌, ◌<◌, nat_lt, cond, List, [], ◌∷◌, sum, sum_by, take, length, slice_index}
use Rattle.full_pegging.specs.declared.units.Units.{Units}
use Rattle.full_pegging.specs.declared.cutting.Piece.{Piece}
use Rattle.full_pegging.specs.declared.cutting.Start.{Start}
use Rattle.full_pegging.specs.Weights.{weight}

-- what rows of units weigh together
abbrev pub rows_weight : (ℕ → ℕ) → List Units → ℕ
rows_weight measure rows = sum_by (weight measure) rows

-- what pieces weigh, where each is weighed by its stretch and by the places in it
abbrev pub pieces_weight : (ℕ → ℕ → ℕ) → List Piece → ℕ
pieces_weight measure pieces = sum_by (λ piece. weight (measure piece.stretch) piece.units) pieces

-- in which of some stretches a number stands, which begin at 0 and follow one another: behind all, in one more
abbrev pub stretch_of : List ℕ → ℕ → ℕ
stretch_of [] number = 0
stretch_of (many ∷ stretches) number = cond (nat_lt number many) 0 (suc (stretch_of stretches (number - many)))

-- at which place of its stretch it stands
abbrev pub place_of : List ℕ → ℕ → ℕ
place_of [] number = number
place_of (many ∷ stretches) number = cond (nat_lt number many) number (place_of stretches (number - many))

-- numbers, weighed by their stretches and places
abbrev pub by_stretch : (ℕ → ℕ → ℕ) → List ℕ → ℕ → ℕ
by_stretch measure stretches number = measure (stretch_of stretches number) (place_of stretches number)

-- a piece doesn't go past the end of its stretch
abbrev pub IsWithin : List ℕ → Piece → Type 0
IsWithin stretches piece = piece.stretch < length stretches → piece.units.first + piece.units.many ≤ slice_index stretches piece.stretch

-- a stretch, with the number that its first place has
abbrev pub IsStart : List ℕ → Start → Type 0
IsStart stretches start = (start.stretch ≤ length stretches) × (start.number ≡ sum (take start.stretch stretches))
