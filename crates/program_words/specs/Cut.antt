-- How the words after a command are cut into the option's values and names.
use Rattle.std.specs.Prelude.{ℕ, ◌==◌, Bool, true, false, List, [], ◌∷◌, codes, bytes_eq, if◌then◌else◌, Option, Some, None, option_map}

-- the values of `--memo`, and all words that are neither options nor values, both in order
pub record Cut : Type 0 where
  pub memos : List (List ℕ)
  pub names : List (List ℕ)

-- what follows this start in a word, where the word begins with it
abbrev pub behind : List ℕ → List ℕ → Option (List ℕ)
behind [] word = Some word
behind (b ∷ start) [] = None
behind (b ∷ start) (c ∷ word) = if b == c then behind start word else None

-- what a word is, where options may stand: `--` ends them, `--memo` takes the next word, `--memo=VALUE` has its value, every other word
-- that begins with `-` and is longer is unknown, and the rest are names
pub data Kind : Type 0 where
  ends : Kind
  takes_next : Kind
  has : List ℕ → Kind
  unknown : Kind
  name : Kind

abbrev pub is_dashed : List ℕ → Bool
is_dashed (first ∷ second ∷ more) = first == 45
is_dashed word = false

abbrev pub kind_by : Option (List ℕ) → Bool → Kind
kind_by (Some value) dashed = has value
kind_by None dashed = if dashed then unknown else name

abbrev pub kind_of : List ℕ → Kind
kind_of word =
    if bytes_eq word (codes "--") then ends
    else (if bytes_eq word (codes "--memo") then takes_next else kind_by (behind (codes "--memo=") word) (is_dashed word))

abbrev pub with_memo : List ℕ → Cut → Cut
with_memo value cut = record cut { memos = value ∷ cut.memos }

abbrev pub with_name : List ℕ → Cut → Cut
with_name word cut = record cut { names = word ∷ cut.names }

-- a value that `--memo` waits for is no option
abbrev pub cut_value : Kind → List ℕ → Option Cut → Option Cut
cut_value name word after = option_map (with_memo word) after
cut_value _ word after = None

-- one word, with what the words after it come to: `after true` where a value is waited for
abbrev pub cut_at : Kind → List ℕ → List (List ℕ) → (Bool → Option Cut) → Option Cut
cut_at ends word rest after = Some (record { memos = []; names = rest })
cut_at takes_next word rest after = after true
cut_at (has value) word rest after = option_map (with_memo value) (after false)
cut_at unknown word rest after = None
cut_at name word rest after = option_map (with_name word) (after false)

-- words, of which the first is a value where one is waited for; none where they are outside the grammar of options
unfoldable pub cut_words : List (List ℕ) → Bool → Option Cut
cut_words [] waits = if waits then None else Some (record { memos = []; names = [] })
cut_words (word ∷ rest) waits =
    if waits then cut_value (kind_of word) word (cut_words rest false) else cut_at (kind_of word) word rest (cut_words rest)
