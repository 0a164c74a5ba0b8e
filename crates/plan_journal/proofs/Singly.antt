-- Texts whose words single spaces part.
use Rattle.std.proofs.Common.{◌≡◌, ℕ, Bool, true, false, not, ◌&&◌, ◌||◌, cond, nat_lt, List, [], ◌∷◌, ◌++◌, length, refl, sym, ap, ◌∙◌, arith}
use Rattle.std.specs.Prelude.{◌==◌, filter}
use Rattle.std.specs.List.{list_all, slice_split, onto_first}
use Rattle.std.proofs.lemmas.Bool.{and_parts, eqb-true}
use Rattle.std.proofs.lemmas.Bool.Decides.{nat_tests}
use Rattle.row_text.specs.Spelling.{spaced, words_text}
use Rattle.command_words.specs.Words.{is_space, words_of}
use Rattle.command_words.proofs.Seen.{is_seen, is_seen_word}
use Rattle.plan_journal.specs.Cuts.{parts_singly}

abbrev some : List ℕ → Bool
some word = nat_lt 0 (length word)

-- the words of such a text, where the first may have begun before it
record IsSingly (is_behind_word : Bool) (text : List ℕ) : Type 0 where
  first : List ℕ
  more : List (List ℕ)
  is : slice_split is_space text ≡ first ∷ more
  words : filter some more ≡ more
  spelled : first ++ spaced more ≡ text
  begins : is_behind_word ≡ false → some first ≡ true

some_word : (byte : ℕ) (word : List ℕ) → some (byte ∷ word) ≡ true
some_word byte word = grind (arith, nat_tests)

with_word_byte : (b : Bool) (byte : ℕ) (text : List ℕ) → (byte == 9) ≡ false → (byte == 32) ≡ false → IsSingly true text → IsSingly b (byte ∷ text)
with_word_byte b byte text e9 e32 h =
    record {
      first = byte ∷ h.first;
      more = h.more;
      is =
          ap (λ t. cond (t || (byte == 9)) ([] ∷ slice_split is_space text) (onto_first byte (slice_split is_space text))) e32
          ∙ ap (λ t. cond t ([] ∷ slice_split is_space text) (onto_first byte (slice_split is_space text))) e9
          ∙ ap (onto_first byte) h.is;
      words = h.words;
      spelled = ap (λ t. byte ∷ t) h.spelled;
      begins = λ _. some_word byte h.first;
    }

with_space : (byte : ℕ) (text : List ℕ) → (byte == 32) ≡ true → IsSingly false text → IsSingly true (byte ∷ text)
with_space byte text e32 h =
    record {
      first = [];
      more = h.first ∷ h.more;
      is = ap (λ t. cond (t || (byte == 9)) ([] ∷ slice_split is_space text) (onto_first byte (slice_split is_space text))) e32 ∙ ap (λ pieces. [] ∷ pieces) h.is;
      words = ap (λ t. cond t (h.first ∷ filter some h.more) (filter some h.more)) (h.begins refl) ∙ ap (λ words. h.first ∷ words) h.words;
      spelled = λ i. sym (eqb-true byte 32 e32) i ∷ h.spelled i;
      begins = λ no_word. (let no : ⊥ = cc in absurd no);
    }

singly : (b : Bool) (text : List ℕ) → parts_singly b text ≡ true → IsSingly b text
singly true [] h = record { first = []; more = []; is = refl; words = refl; spelled = refl; begins = λ no_word. (let no : ⊥ = cc in absurd no) }
singly false [] h = cc
singly true (byte ∷ text) h = by_test (singly true text) (singly false text) (byte == 9) (byte == 32) refl refl h
  where
    by_test : (parts_singly true text ≡ true → IsSingly true text) → (parts_singly false text ≡ true → IsSingly false text) → (t9 t32 : Bool) → (byte == 9) ≡ t9 → (byte == 32) ≡ t32 → cond t9 false (cond (t32 && false) false (parts_singly (not t32) text)) ≡ true → IsSingly true (byte ∷ text)
    by_test word space true t32 e9 e32 k = cc
    by_test word space false true e9 e32 k = with_space byte text e32 (space k)
    by_test word space false false e9 e32 k = with_word_byte true byte text e9 e32 (word k)
singly false (byte ∷ text) h = by_test (singly true text) (byte == 9) (byte == 32) refl refl h
  where
    by_test : (parts_singly true text ≡ true → IsSingly true text) → (t9 t32 : Bool) → (byte == 9) ≡ t9 → (byte == 32) ≡ t32 → cond t9 false (cond (t32 && true) false (parts_singly (not t32) text)) ≡ true → IsSingly false (byte ∷ text)
    by_test word true t32 e9 e32 k = cc
    by_test word false true e9 e32 k = cc
    by_test word false false e9 e32 k = with_word_byte false byte text e9 e32 (word k)

-- such a text is its words, parted by single spaces
pub singly_spelled : (text : List ℕ) → parts_singly false text ≡ true → words_text (words_of text) ≡ text
unfolding words_of
singly_spelled text h =
    let p = singly false text h in
    let words : filter some (p.first ∷ p.more) ≡ p.first ∷ p.more = ap (λ t. cond t (p.first ∷ filter some p.more) (filter some p.more)) (p.begins refl) ∙ ap (λ words. p.first ∷ words) p.words in
    ap (λ pieces. words_text (filter some pieces)) p.is ∙ ap words_text words ∙ p.spelled

-- words that are seen --------------------------------------------------------------------------------------------------------

seen_byte : (b : Bool) (byte : ℕ) (text : List ℕ) → is_seen byte ≡ true → parts_singly b (byte ∷ text) ≡ parts_singly true text
seen_byte b byte text h =
    let e9 : (byte == 9) ≡ false = grind (arith, nat_tests) in
    let e32 : (byte == 32) ≡ false = grind (arith, nat_tests) in
    ap (λ t. cond t false (cond ((byte == 32) && not b) false (parts_singly (not (byte == 32)) text))) e9
    ∙ ap (λ t. cond (t && not b) false (parts_singly (not t) text)) e32

seen_bytes : (word rest : List ℕ) → list_all is_seen word ≡ true → parts_singly true (word ++ rest) ≡ parts_singly true rest
seen_bytes [] rest h = refl
seen_bytes (byte ∷ word) rest h = let p = and_parts (is_seen byte) (list_all is_seen word) h in seen_byte true byte (word ++ rest) p.0 ∙ seen_bytes word rest p.1

seen_word_on : (b : Bool) (word rest : List ℕ) → is_seen_word word ≡ true → parts_singly b (word ++ rest) ≡ parts_singly true rest
seen_word_on b [] rest h = cc
seen_word_on b (byte ∷ word) rest h =
    let p = and_parts (nat_lt 0 (length (byte ∷ word))) (list_all is_seen (byte ∷ word)) h in
    let q = and_parts (is_seen byte) (list_all is_seen word) p.1 in
    seen_byte b byte (word ++ rest) q.0 ∙ seen_bytes word rest q.1

spaced_singly : (words : List (List ℕ)) → list_all is_seen_word words ≡ true → parts_singly true (spaced words) ≡ true
spaced_singly [] h = refl
spaced_singly (word ∷ words) h =
    let p = and_parts (is_seen_word word) (list_all is_seen_word words) h in
    seen_word_on false word (spaced words) p.0 ∙ spaced_singly words p.1

pub words_singly : (word : List ℕ) (words : List (List ℕ)) → list_all is_seen_word (word ∷ words) ≡ true → parts_singly false (words_text (word ∷ words)) ≡ true
words_singly word words h =
    let p = and_parts (is_seen_word word) (list_all is_seen_word words) h in
    seen_word_on false word (spaced words) p.0 ∙ spaced_singly words p.1
