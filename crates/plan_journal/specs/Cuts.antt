-- Texts cut into lines and words.
use Rattle.std.specs.Prelude.{ℕ, Bool, not, ◌&&◌, ◌==◌, List, [], ◌∷◌, Option, Some, None, if◌then◌else◌, false}

abbrev pub onto_first : ℕ → Option (List ℕ × List ℕ) → Option (List ℕ × List ℕ)
onto_first byte None = None
onto_first byte (Some parts) = Some (byte ∷ parts.0, parts.1)

-- a text up to the first place of a byte, and what stands behind that place; nothing where the byte isn't there
unfoldable pub cut_at : ℕ → List ℕ → Option (List ℕ × List ℕ)
cut_at mark [] = None
cut_at mark (byte ∷ text) = if byte == mark then Some ([], text) else onto_first byte (cut_at mark text)

-- the text is words that single spaces part: no tab stands in it, no space at its end, none at its beginning unless the byte of a
-- word stands before it, as the first argument says, and none behind another
abbrev pub parts_singly : Bool → List ℕ → Bool
parts_singly is_behind_word [] = is_behind_word
parts_singly is_behind_word (byte ∷ text) =
    if byte == 9 then false else (if (byte == 32) && not is_behind_word then false else parts_singly (not (byte == 32)) text)

abbrev pub onto_line : ℕ → List (List ℕ) → List ℕ → List (List ℕ) × List ℕ
onto_line byte [] last = ([], byte ∷ last)
onto_line byte (line ∷ lines) last = ((byte ∷ line) ∷ lines, last)

abbrev pub with_byte : ℕ → List (List ℕ) × List ℕ → List (List ℕ) × List ℕ
with_byte byte parts = if byte == 10 then ([] ∷ parts.0, parts.1) else onto_line byte parts.0 parts.1

-- the lines of a text, each without its line feed, and what stands behind the last line feed
unfoldable pub parts_of : List ℕ → List (List ℕ) × List ℕ
parts_of [] = ([], [])
parts_of (byte ∷ text) = with_byte byte (parts_of text)
