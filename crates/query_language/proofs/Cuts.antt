-- The token that a text begins with.
use Rattle.std.proofs.Common.{◌≡◌, ℕ, suc, ◌+◌, ◌≤◌, Bool, true, false, ◌&&◌, cond, List, [], ◌∷◌, length, take, drop, refl, sym, ap, ◌∙◌, subst, arith}
use Rattle.std.specs.List.{prefix_len}
use Rattle.row_text.proofs.Fields.{and_true}
use Rattle.query_language.specs.Tokens.{is_space, is_word_byte, begins_with_word, begins_with_equals, takes_equals, symbol_of, joined, with_byte, tokens_from, BeginsWithToken}
use Rattle.query_language.specs.declared.token.Token.{Token}
use Rattle.query_language.specs.declared.token.Token.TheVariants as token

-- how a choice ends
pub when_true : {A : Type 0} (b : Bool) (x y : A) → b ≡ true → cond b x y ≡ x
when_true b x y h = ap (λ v. cond v x y) h

pub when_false : {A : Type 0} (b : Bool) (x y : A) → b ≡ false → cond b x y ≡ y
when_false b x y h = ap (λ v. cond v x y) h

one_more : (n : ℕ) → 1 + n ≡ suc n
one_more n = omega arith

further : (place n : ℕ) → (place + 1) + n ≡ place + suc n
further place n = omega arith

no_further : (place : ℕ) → place ≡ place + 0
no_further place = omega arith

-- spaces in front add no token
pub spaces_pass : (place : ℕ) (text : List ℕ) → tokens_from place text ≡ tokens_from (place + prefix_len is_space text) (drop (prefix_len is_space text) text)
spaces_pass place [] = refl
spaces_pass place (x ∷ text) =
    elim (is_space x) as (λ v. is_space x ≡ v → with_byte place x text (tokens_from (place + 1) text) ≡ tokens_from (place + cond v (1 + prefix_len is_space text) 0) (drop (cond v (1 + prefix_len is_space text) 0) (x ∷ text))) [
      | true ↦ λ e. (when_true (is_space x) _ _ e ∙ spaces_pass (place + 1) text
          ∙ ap (λ p. tokens_from p (drop (prefix_len is_space text) text)) (further place (prefix_len is_space text))
          ∙ ap (λ n. tokens_from (place + n) (drop n (x ∷ text))) (sym (one_more (prefix_len is_space text))))
      | false ↦ λ e. ap (λ p. tokens_from p (x ∷ text)) (no_further place)
    ] refl

pub no_space_behind : (text : List ℕ) → prefix_len is_space (drop (prefix_len is_space text) text) ≡ 0
no_space_behind [] = refl
no_space_behind (x ∷ text) =
    elim (is_space x) as (λ v. is_space x ≡ v → prefix_len is_space (drop (cond v (1 + prefix_len is_space text) 0) (x ∷ text)) ≡ 0) [
      | true ↦ λ e. ap (λ n. prefix_len is_space (drop n (x ∷ text))) (one_more (prefix_len is_space text)) ∙ no_space_behind text
      | false ↦ λ e. ap (λ v. cond v (1 + prefix_len is_space text) 0) e
    ] refl

-- a byte that isn't a space
pub is_no_space : (x : ℕ) (text : List ℕ) → prefix_len is_space (x ∷ text) ≡ 0 → is_space x ≡ false
is_no_space x text h = elim (is_space x) as (λ v. cond v (1 + prefix_len is_space text) 0 ≡ 0 → v ≡ false) [ true ↦ λ e. absurd (omega arith) | false ↦ λ e. refl ] h

-- no byte of a word is a space
word_no_space : (x : ℕ) → is_word_byte x ≡ true → is_space x ≡ false
word_no_space x h = grind (arith)

abbrev word_count : List ℕ → ℕ
word_count text = prefix_len is_word_byte text

abbrev WordFirst : ℕ → List ℕ → ℕ → Type 0
WordFirst place text n = tokens_from place text ≡ (place, token.Word (take n text)) ∷ tokens_from (place + n) (drop n text)

-- a byte before a word
joined_first : (place x : ℕ) (text : List ℕ) (n : ℕ) → WordFirst (place + 1) text n → joined place x (tokens_from (place + 1) text) ≡ (place, token.Word (take (suc n) (x ∷ text))) ∷ tokens_from (place + suc n) (drop (suc n) (x ∷ text))
joined_first place x text n h = ap (joined place x) h ∙ ap (λ p. (place, token.Word (x ∷ take n text)) ∷ tokens_from p (drop n text)) (further place n)

-- a byte of a word, by what follows it
with_word : (place x : ℕ) (text : List ℕ) → is_word_byte x ≡ true → with_byte place x text (tokens_from (place + 1) text) ≡ cond (begins_with_word text) (joined place x (tokens_from (place + 1) text)) ((place, token.Word (x ∷ [])) ∷ tokens_from (place + 1) text)
with_word place x text h =
    when_false (is_space x) _ _ (word_no_space x h) ∙ when_true (is_word_byte x) _ _ h

count_word : (x : ℕ) (text : List ℕ) → is_word_byte x ≡ true → word_count (x ∷ text) ≡ suc (word_count text)
count_word x text h = ap (λ v. cond v (1 + word_count text) 0) h ∙ one_more (word_count text)

-- a word is the first token
pub word_first : (place x : ℕ) (text : List ℕ) → is_word_byte x ≡ true → WordFirst place (x ∷ text) (word_count (x ∷ text))
word_first place x [] h =
    with_word place x [] h ∙ sym (ap (λ n. (place, token.Word (take n (x ∷ []))) ∷ tokens_from (place + n) (drop n (x ∷ []))) (count_word x [] h))
word_first place x (y ∷ text) h =
    let count : word_count (x ∷ y ∷ text) ≡ suc (word_count (y ∷ text)) = count_word x (y ∷ text) h in
    subst (WordFirst place (x ∷ y ∷ text)) (sym count)
    (with_word place x (y ∷ text) h
    ∙ elim (is_word_byte y) as (λ v. is_word_byte y ≡ v → cond v (joined place x (tokens_from (place + 1) (y ∷ text))) ((place, token.Word (x ∷ [])) ∷ tokens_from (place + 1) (y ∷ text)) ≡ (place, token.Word (take (suc (word_count (y ∷ text))) (x ∷ y ∷ text))) ∷ tokens_from (place + suc (word_count (y ∷ text))) (drop (suc (word_count (y ∷ text))) (x ∷ y ∷ text))) [
      | true ↦ λ e. joined_first place x (y ∷ text) (word_count (y ∷ text)) (word_first (place + 1) y text e)
      | false ↦ λ e. sym (ap (λ n. (place, token.Word (take (suc n) (x ∷ y ∷ text))) ∷ tokens_from (place + suc n) (drop (suc n) (x ∷ y ∷ text))) (ap (λ v. cond v (1 + word_count text) 0) e))
    ] refl)

count_within : (text : List ℕ) → word_count text ≤ length text
count_within [] = omega arith
count_within (x ∷ text) =
    elim (is_word_byte x) as (λ v. cond v (1 + word_count text) 0 ≤ length (x ∷ text))
    [ true ↦ omega (arith, count_within text) | false ↦ omega arith ]

pub begins_word : (text : List ℕ) → begins_with_word text ≡ true → BeginsWithToken text (token.Word (take (word_count text) text)) (word_count text)
begins_word [] h = cc
begins_word (x ∷ text) h = record { first = λ place. word_first place x text h; within = count_within (x ∷ text) }

-- a symbol of two bytes, and one of one
with_symbol : (place x : ℕ) (text : List ℕ) → is_word_byte x ≡ false → is_space x ≡ false → with_byte place x text (tokens_from (place + 1) text) ≡ cond (takes_equals x && begins_with_equals text) ((place, symbol_of x true) ∷ drop 1 (tokens_from (place + 1) text)) ((place, symbol_of x false) ∷ tokens_from (place + 1) text)
with_symbol place x text h k =
    when_false (is_space x) _ _ k ∙ when_false (is_word_byte x) _ _ h

pub begins_two : (x : ℕ) (text : List ℕ) → is_word_byte x ≡ false → is_space x ≡ false → takes_equals x ≡ true → begins_with_equals text ≡ true → BeginsWithToken (x ∷ text) (symbol_of x true) 2
begins_two x [] h k t e = cc
begins_two x (y ∷ text) h k t e =
    let is : y ≡ 61 = grind (arith) in
    record {
      first = λ place. with_symbol place x (y ∷ text) h k ∙ when_true (takes_equals x && begins_with_equals (y ∷ text)) _ _ (and_true t e)
          ∙ ap (λ z. (place, symbol_of x true) ∷ drop 1 (tokens_from (place + 1) (z ∷ text))) is
          ∙ ap (λ p. (place, symbol_of x true) ∷ tokens_from p text) (further place 1);
      within = omega arith;
    }

pub begins_one : (x : ℕ) (text : List ℕ) → is_word_byte x ≡ false → is_space x ≡ false → (takes_equals x && begins_with_equals text) ≡ false → BeginsWithToken (x ∷ text) (symbol_of x false) 1
begins_one x text h k e =
    record {
      first = λ place. with_symbol place x text h k ∙ when_false (takes_equals x && begins_with_equals text) _ _ e;
      within = omega arith;
    }

-- the tokens of a text behind its spaces
pub behind_spaces : (place spaces : ℕ) (text rest : List ℕ) → spaces ≡ prefix_len is_space text → rest ≡ drop spaces text → tokens_from place text ≡ tokens_from (place + spaces) rest
behind_spaces place spaces text rest s r =
    spaces_pass place text ∙ sym (ap (λ n. tokens_from (place + n) (drop n text)) s) ∙ sym (ap (tokens_from (place + spaces)) r)

pub rest_no_space : (spaces : ℕ) (text rest : List ℕ) → spaces ≡ prefix_len is_space text → rest ≡ drop spaces text → prefix_len is_space rest ≡ 0
rest_no_space spaces text rest s r = ap (prefix_len is_space) (r ∙ ap (λ n. drop n text) s) ∙ no_space_behind text

-- the first token of a text, and the text behind it
pub behind_token : (place count : ℕ) (one : Token) (rest left : List ℕ) → BeginsWithToken rest one count → left ≡ drop count rest → tokens_from place rest ≡ (place, one) ∷ tokens_from (place + count) left
behind_token place count one rest left b l = b.first place ∙ ap (λ t. (place, one) ∷ tokens_from (place + count) t) (sym l)
