-- Bytes that are read ahead of a source, and lines taken from them.
use Rattle.std.specs.Prelude.{◌≡◌, ◌≢◌, ℕ, Bool, true, false, List, [], ◌∷◌, ◌++◌, Option, Some, None, option_map}
use Rattle.command_words.specs.Forms.{line_cut, lines_cut}
use Rattle.command_words.specs.Replies.{ended}

-- all that is still to be read, where the source tells: the bytes ahead, and then what is left
abbrev pub still : List ℕ → Option (List ℕ) → Option (List ℕ)
still ahead left = option_map (λ rest. ahead ++ rest) left

-- nothing is left to be read, or something is
abbrev pub TellsEnd : Bool → Option (List ℕ) → Type 0
TellsEnd true before = (all : List ℕ) → before ≡ Some all → all ≡ []
TellsEnd false before = (all : List ℕ) → before ≡ Some all → all ≢ []

-- the first byte was taken; there is none at the end alone
abbrev pub GivesByte : Option ℕ → Option (List ℕ) → Option (List ℕ) → Type 0
GivesByte (Some byte) before after = before ≡ option_map (λ rest. byte ∷ rest) after
GivesByte None before after = (all : List ℕ) → before ≡ Some all → all ≡ []

-- the first line of these bytes was put behind a text with its line feed, and what follows it is still to be read
pub record TookLine (all : List ℕ) (after : Option (List ℕ)) (text text_then : List ℕ) : Type 0 where
  pub line : List ℕ
  pub behind : List ℕ
  pub cut : line_cut all ≡ Some (line, behind)
  pub whole : all ≡ ended line ++ behind
  pub left : after ≡ Some behind
  pub taken : text_then ≡ text ++ ended line

-- a line was taken, or the bytes don't begin with one
abbrev pub LineTaken : List ℕ → Option (List ℕ) → List ℕ → List ℕ → Bool → Type 0
LineTaken all after text text_then true = TookLine all after text text_then
LineTaken all after text text_then false = line_cut all ≡ None

-- so many lines were put behind a text, and what follows them is still to be read
pub record TookLines (count : ℕ) (all : List ℕ) (after : Option (List ℕ)) (text text_then : List ℕ) : Type 0 where
  pub lines : List ℕ
  pub behind : List ℕ
  pub cut : lines_cut count all ≡ Some behind
  pub whole : all ≡ lines ++ behind
  pub left : after ≡ Some behind
  pub taken : text_then ≡ text ++ lines

abbrev pub LinesTaken : ℕ → List ℕ → Option (List ℕ) → List ℕ → List ℕ → Bool → Type 0
LinesTaken count all after text text_then true = TookLines count all after text text_then
LinesTaken count all after text text_then false = lines_cut count all ≡ None

-- an output that is read: the bytes ahead, and the text of the last reply
pub record Output : Type 0 where
  pub ahead : List ℕ
  pub text : List ℕ
