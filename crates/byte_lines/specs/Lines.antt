-- Lines of a stream of bytes. A stream is cut at its line feeds; what stands behind the last line feed is a line where it isn't
-- empty. One carriage return at a line's end is no part of the line. A line with more than 1,024 bytes left is too long.
use Rattle.std.specs.Prelude.{◌≤◌, ℕ, ◌+◌, ◌-◌, Bool, true, false, ◌==◌, nat_le, slice_index, List, [], ◌∷◌, ◌++◌, length, take, map, position, Option, Some, None, if◌then◌else◌}
use Rattle.std.specs.List.{slice_split}

-- the most bytes of a line
abbrev pub line_limit : ℕ
line_limit = 1024

-- a line's bytes without one carriage return at their end
abbrev pub without_return : List ℕ → List ℕ
without_return bytes = if slice_index bytes (length bytes - 1) == 13 then take (length bytes - 1) bytes else bytes

-- the text of a line that has these bytes before its line feed, or nothing where it is too long
unfoldable pub text_of_line : List ℕ → Option (List ℕ)
text_of_line bytes = if nat_le (length (without_return bytes)) line_limit then Some (without_return bytes) else None

-- the last piece, unless it is empty
abbrev pub last_unless_empty : List ℕ → List (List ℕ)
last_unless_empty [] = []
last_unless_empty (b ∷ bytes) = (b ∷ bytes) ∷ []

-- without an empty piece at the end
abbrev pub without_last_empty : List (List ℕ) → List (List ℕ)
without_last_empty [] = []
without_last_empty (piece ∷ []) = last_unless_empty piece
without_last_empty (piece ∷ next ∷ pieces) = piece ∷ without_last_empty (next ∷ pieces)

-- the lines of a whole stream, each with its text, or nothing where it is too long
unfoldable pub lines_of : List ℕ → List (Option (List ℕ))
lines_of stream = map text_of_line (without_last_empty (slice_split (λ b. b == 10) stream))

-- a stream that comes in pieces ------------------------------------------------------------------------------------------

-- the most bytes that are kept of a line: the longest line and a carriage return that may stand at its end
abbrev pub kept_limit : ℕ
kept_limit = 1025

-- what is kept of a line so far once more bytes came: the bytes, or nothing where there are too many
unfoldable pub grown : Option (List ℕ) → List ℕ → Option (List ℕ)
grown None bytes = None
grown (Some kept) bytes = if nat_le (length kept + length bytes) kept_limit then Some (kept ++ bytes) else None

-- the text of a line of which this is kept, or nothing where it is too long
unfoldable pub line_of : Option (List ℕ) → Option (List ℕ)
line_of None = None
line_of (Some kept) = text_of_line kept

-- the lines that a stream completes behind what is kept of one, and what is kept of the last
unfoldable pub lines_from : Option (List ℕ) → List ℕ → List (Option (List ℕ)) × Option (List ℕ)
lines_from kept [] = ([], kept)
lines_from kept (b ∷ bytes) =
    if b == 10 then (line_of kept ∷ (lines_from (Some []) bytes).0, (lines_from (Some []) bytes).1)
    else lines_from (grown kept (b ∷ [])) bytes

-- the lines of a stream in two pieces, from those of each
abbrev pub lines_joined : List (Option (List ℕ)) × Option (List ℕ) → List (Option (List ℕ)) × Option (List ℕ) → List (Option (List ℕ)) × Option (List ℕ)
lines_joined first second = (first.0 ++ second.0, second.1)

-- a line, and then the lines behind it
abbrev pub line_before : Option (List ℕ) → List (Option (List ℕ)) × Option (List ℕ) → List (Option (List ℕ)) × Option (List ℕ)
line_before line later = (line ∷ later.0, later.1)

-- the line that the end of a stream completes: none where nothing came of it
abbrev pub last_line : Option (List ℕ) → List (Option (List ℕ))
last_line None = None ∷ []
last_line (Some []) = []
last_line (Some (b ∷ bytes)) = line_of (Some (b ∷ bytes)) ∷ []

-- all the lines behind what is kept of one, where the stream ends with these bytes
unfoldable pub lines_after : Option (List ℕ) → List ℕ → List (Option (List ℕ))
lines_after kept bytes = (lines_from kept bytes).0 ++ last_line (lines_from kept bytes).1

-- how many bytes of a piece belong to the line so far, with its line feed, and whether that is among them
abbrev pub counted : Option ℕ → List ℕ → ℕ × Bool
counted (Some at) piece = (at + 1, true)
counted None piece = (length piece, false)

abbrev pub share_of_line : List ℕ → ℕ × Bool
share_of_line piece = counted (position (λ b. b == 10) piece) piece

-- what is kept of a line fits
abbrev pub IsKept : Option (List ℕ) → Type 0
IsKept None = Unit {0}
IsKept (Some kept) = length kept ≤ kept_limit

-- what is kept of a line so far, and whether the line is complete
pub record LineSoFar : Type 0 where
  pub kept : Option (List ℕ)
  pub is_complete : Bool

-- before the first byte of a line
abbrev pub no_bytes : LineSoFar
no_bytes = record { kept = Some []; is_complete = false }
