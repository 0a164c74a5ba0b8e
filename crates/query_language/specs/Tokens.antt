-- The tokens of a text, each with the place of its first byte. Words are longest runs of letters, digits, `_`, `-` and `.`; symbols are
-- `,` `(` `)` `=` `!=` `<` `<=` `>` `>=`, the longest that stands there. Spaces and tabs may stand between tokens. Any other byte is a
-- token that fits nowhere.
use Rattle.std.specs.Prelude.{◌≡◌, ◌≤◌, ℕ, ◌+◌, Bool, true, false, ◌&&◌, ◌||◌, ◌==◌, List, [], ◌∷◌, drop, length, if◌then◌else◌}
use Rattle.plan_schema.specs.Name.{is_name_byte}
use Rattle.query_language.specs.declared.column.Op.TheVariants as ops
use Rattle.query_language.specs.declared.token.Token.{Token}
use Rattle.query_language.specs.declared.token.Token.TheVariants as token

-- a space or a tab
abbrev pub is_space : ℕ → Bool
is_space byte = (byte == 32) || (byte == 9)

-- a byte of a word
abbrev pub is_word_byte : ℕ → Bool
is_word_byte byte = is_name_byte byte

abbrev pub begins_with_word : List ℕ → Bool
begins_with_word [] = false
begins_with_word (byte ∷ text) = is_word_byte byte

abbrev pub begins_with_equals : List ℕ → Bool
begins_with_equals [] = false
begins_with_equals (byte ∷ text) = byte == 61

-- `!`, `<` and `>` make one symbol with a `=` that stands right behind them
abbrev pub takes_equals : ℕ → Bool
takes_equals byte = (byte == 33) || (byte == 60) || (byte == 62)

-- the symbol that a byte is, by itself or with a `=` behind it
abbrev pub symbol_of : ℕ → Bool → Token
symbol_of byte with_equals =
    if byte == 44 then token.Comma
    else (if byte == 40 then token.Open
    else (if byte == 41 then token.Close
    else (if byte == 61 then token.Compare ops.Eq
    else (if byte == 33 then (if with_equals then token.Compare ops.Ne else token.Other)
    else (if byte == 60 then (if with_equals then token.Compare ops.Le else token.Compare ops.Lt)
    else (if byte == 62 then (if with_equals then token.Compare ops.Ge else token.Compare ops.Gt)
    else token.Other))))))

-- a byte in front of the word that follows it
abbrev pub joined : ℕ → ℕ → List (ℕ × Token) → List (ℕ × Token)
joined place byte ((_, token.Word word) ∷ tokens) = (place, token.Word (byte ∷ word)) ∷ tokens
joined place byte tokens = (place, token.Word (byte ∷ [])) ∷ tokens

-- a byte in front of a text whose tokens are known: a space or a tab adds none, a byte of a word joins a word that follows at once, and
-- `!`, `<` and `>` join a `=` that follows at once
abbrev pub with_byte : ℕ → ℕ → List ℕ → List (ℕ × Token) → List (ℕ × Token)
with_byte place byte text tokens =
    if is_space byte then tokens
    else (if is_word_byte byte then (if begins_with_word text then joined place byte tokens else (place, token.Word (byte ∷ [])) ∷ tokens)
    else (if takes_equals byte && begins_with_equals text then (place, symbol_of byte true) ∷ drop 1 tokens
    else (place, symbol_of byte false) ∷ tokens))

-- the tokens of a text that begins at a place
abbrev pub tokens_from : ℕ → List ℕ → List (ℕ × Token)
tokens_from place [] = []
tokens_from place (byte ∷ text) = with_byte place byte text (tokens_from (place + 1) text)

abbrev pub tokens_of : List ℕ → List (ℕ × Token)
tokens_of text = tokens_from 0 text

-- a text begins with a token of so many bytes, wherever the text begins
pub record BeginsWithToken (text : List ℕ) (token : Token) (count : ℕ) : Type 0 where
  pub first : (place : ℕ) → tokens_from place text ≡ (place, token) ∷ tokens_from (place + count) (drop count text)
  pub within : count ≤ length text
