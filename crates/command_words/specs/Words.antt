-- The words of a line: they are parted by one or more spaces or tabs, and those at either end of the line are ignored.
use Rattle.std.specs.Prelude.{ℕ, ◌-◌, Bool, not, ◌&&◌, ◌||◌, ◌==◌, nat_lt, List, length, take, drop, filter}
use Rattle.std.specs.List.{list_all, slice_split, prefix_len, suffix_len}

-- a space or a tab
abbrev pub is_space : ℕ → Bool
is_space byte = (byte == 32) || (byte == 9)

-- a line with spaces and tabs alone, or nothing
abbrev pub is_blank : List ℕ → Bool
is_blank line = list_all is_space line

-- the words of a line
unfoldable pub words_of : List ℕ → List (List ℕ)
words_of line = filter (λ word. nat_lt 0 (length word)) (slice_split is_space line)

-- its first ten words: no command and no row has as many, and of those too many the first alone is told
unfoldable pub first_words : List ℕ → List (List ℕ)
first_words line = take 10 (words_of line)

-- a byte of a word
abbrev pub is_word_byte : ℕ → Bool
is_word_byte byte = not (is_space byte)

-- a word: at least one byte, none of them a space or a tab
abbrev pub is_word : List ℕ → Bool
is_word word = nat_lt 0 (length word) && list_all is_word_byte word

-- the query of a SELECT line ------------------------------------------------------------------------------------------------

-- a text from its first word on
abbrev pub from_word : List ℕ → List ℕ
from_word text = drop (prefix_len is_space text) text

-- a text up to the end of its last word
abbrev pub to_word : List ℕ → List ℕ
to_word text = take (length text - suffix_len is_space text) text

-- what stands behind the first word of a text
abbrev pub behind_word : List ℕ → List ℕ
behind_word text = drop (prefix_len is_word_byte (from_word text)) (from_word text)

-- the query of a SELECT line: what stands behind its first two words, from the first byte there that is neither a space nor a tab
-- to the last such byte, with every byte between them
unfoldable pub query_of : List ℕ → List ℕ
query_of line = to_word (from_word (behind_word (behind_word line)))
