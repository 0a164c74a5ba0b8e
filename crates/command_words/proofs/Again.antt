-- Words that are parted by single spaces are read again.
use Rattle.std.proofs.Common.{◌≡◌, ℕ, Bool, true, false, not, cond, nat_lt, List, [], ◌∷◌, ◌++◌, length, refl, ap, ◌∙◌, append-nil}
use Rattle.std.specs.Prelude.{filter}
use Rattle.std.specs.List.{list_all, slice_split, onto_first}
use Rattle.std.proofs.lemmas.Bool.{and_parts}
use Rattle.row_text.specs.Spelling.{words_text}
use Rattle.command_words.specs.Words.{is_space, is_word_byte, is_word, words_of}

pub is_not : (b : Bool) → not b ≡ true → b ≡ false
is_not true h = cc
is_not false h = refl

-- a word up to the space behind it
split_word : (word rest : List ℕ) → list_all is_word_byte word ≡ true → slice_split is_space (word ++ 32 ∷ rest) ≡ word ∷ slice_split is_space rest
split_word [] rest h = refl
split_word (x ∷ word) rest h =
    let p = and_parts (is_word_byte x) (list_all is_word_byte word) h in
    ap (λ t. cond t ([] ∷ slice_split is_space (word ++ 32 ∷ rest)) (onto_first x (slice_split is_space (word ++ 32 ∷ rest)))) (is_not (is_space x) p.0)
    ∙ ap (onto_first x) (split_word word rest p.1)

-- the last word
split_last : (word : List ℕ) → list_all is_word_byte word ≡ true → slice_split is_space word ≡ word ∷ []
split_last [] h = refl
split_last (x ∷ word) h =
    let p = and_parts (is_word_byte x) (list_all is_word_byte word) h in
    ap (λ t. cond t ([] ∷ slice_split is_space word) (onto_first x (slice_split is_space word))) (is_not (is_space x) p.0) ∙ ap (onto_first x) (split_last word p.1)

split_words : (word : List ℕ) (words : List (List ℕ)) → is_word word ≡ true → list_all is_word words ≡ true → slice_split is_space (words_text (word ∷ words)) ≡ word ∷ words
split_words word [] h hs =
    let p = and_parts (nat_lt 0 (length word)) (list_all is_word_byte word) h in
    ap (slice_split is_space) (append-nil word) ∙ split_last word p.1
split_words word (next ∷ words) h hs =
    let p = and_parts (nat_lt 0 (length word)) (list_all is_word_byte word) h in
    let q = and_parts (is_word next) (list_all is_word words) hs in
    split_word word (words_text (next ∷ words)) p.1 ∙ ap (λ t. word ∷ t) (split_words next words q.0 q.1)

-- no word is empty
filter_words : (words : List (List ℕ)) → list_all is_word words ≡ true → filter (λ word. nat_lt 0 (length word)) words ≡ words
filter_words [] h = refl
filter_words (word ∷ words) h =
    let q = and_parts (is_word word) (list_all is_word words) h in
    let p = and_parts (nat_lt 0 (length word)) (list_all is_word_byte word) q.0 in
    ap (λ t. cond t (word ∷ filter (λ w. nat_lt 0 (length w)) words) (filter (λ w. nat_lt 0 (length w)) words)) p.0 ∙ ap (λ t. word ∷ t) (filter_words words q.1)

pub words_again : (words : List (List ℕ)) → list_all is_word words ≡ true → words_of (words_text words) ≡ words
unfolding words_of
words_again [] h = refl
words_again (word ∷ words) h =
    let q = and_parts (is_word word) (list_all is_word words) h in
    ap (filter (λ w. nat_lt 0 (length w))) (split_words word words q.0 q.1) ∙ filter_words (word ∷ words) h
