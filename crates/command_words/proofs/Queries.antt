-- The words behind the first of a line, and the text of a query.
use Rattle.std.proofs.Common.{◌≡◌, ℕ, zero, suc, ◌+◌, ◌-◌, Bool, true, false, not, cond, nat_lt, List, [], ◌∷◌, ◌++◌, length, take, drop, reverse, refl, sym, ap, ◌∙◌, subst, arith, length-drop}
use Rattle.std.specs.Prelude.{filter}
use Rattle.std.specs.List.{list_all, slice_split, onto_first, prefix_len, suffix_len}
use Rattle.std.proofs.lemmas.Bool.{and_parts}
use Rattle.std.proofs.lemmas.Bool.Decides.{nat_tests}
use Rattle.std.proofs.lemmas.List.{take-append-drop, take-append-le, length-reverse, reverse-append, reverse-reverse, take_all}
use Rattle.std.proofs.Math.Seq.{drop-append_seam}
use Rattle.row_text.proofs.Fields.{and_true}
use Rattle.command_words.specs.Words.{is_space, is_word_byte, is_word, words_of, from_word, to_word, behind_word, query_of}
use Rattle.command_words.specs.Spelling.{begins_with_word, is_query_text}

abbrev some : List ℕ → Bool
some word = nat_lt 0 (length word)

-- where words begin ---------------------------------------------------------------------------------------------------------

-- nothing, or a text that begins with a word
abbrev IsFromWord : List ℕ → Type 0
IsFromWord [] = Unit {0}
IsFromWord (x ∷ text) = is_space x ≡ false

-- nothing, or a text that begins with a space
abbrev IsBehindWord : List ℕ → Type 0
IsBehindWord [] = Unit {0}
IsBehindWord (x ∷ text) = is_space x ≡ true

is_from_word : (text : List ℕ) → IsFromWord (from_word text)
is_from_word [] = tt
is_from_word (x ∷ text) =
    elim (is_space x) as (λ v. is_space x ≡ v → IsFromWord (drop (cond v (1 + prefix_len is_space text) 0) (x ∷ text)))
    [ true ↦ λ _. (let one : 1 + prefix_len is_space text ≡ suc (prefix_len is_space text) = omega arith in subst (λ n. IsFromWord (drop n (x ∷ text))) (sym one) (is_from_word text)) | false ↦ λ e. e ] refl

is_behind : (text : List ℕ) → IsBehindWord (drop (prefix_len is_word_byte text) text)
is_behind [] = tt
is_behind (x ∷ text) =
    elim (is_space x) as (λ v. is_space x ≡ v → IsBehindWord (drop (cond (not v) (1 + prefix_len is_word_byte text) 0) (x ∷ text)))
    [ true ↦ λ e. e | false ↦ λ _. (let one : 1 + prefix_len is_word_byte text ≡ suc (prefix_len is_word_byte text) = omega arith in subst (λ n. IsBehindWord (drop n (x ∷ text))) (sym one) (is_behind text)) ] refl

all_of_prefix : (p : ℕ → Bool) (text : List ℕ) → list_all p (take (prefix_len p text) text) ≡ true
all_of_prefix p [] = refl
all_of_prefix p (x ∷ text) =
    elim (p x) as (λ v. p x ≡ v → list_all p (take (cond v (1 + prefix_len p text) 0) (x ∷ text)) ≡ true)
    [ true ↦ λ e. (let one : 1 + prefix_len p text ≡ suc (prefix_len p text) = omega arith in subst (λ n. list_all p (take n (x ∷ text)) ≡ true) (sym one) (and_true e (all_of_prefix p text))) | false ↦ λ _. refl ] refl

-- words of parts ------------------------------------------------------------------------------------------------------------

words_behind_space : (x : ℕ) (text : List ℕ) → is_space x ≡ true → words_of (x ∷ text) ≡ words_of text
unfolding words_of
words_behind_space x text e = ap (λ v. filter some (cond v ([] ∷ slice_split is_space text) (onto_first x (slice_split is_space text)))) e

pub words_from : (text : List ℕ) → words_of (from_word text) ≡ words_of text
words_from [] = refl
words_from (x ∷ text) =
    elim (is_space x) as (λ v. is_space x ≡ v → words_of (drop (cond v (1 + prefix_len is_space text) 0) (x ∷ text)) ≡ words_of (x ∷ text))
    [ true ↦ λ e. (let one : 1 + prefix_len is_space text ≡ suc (prefix_len is_space text) = omega arith in ap (λ n. words_of (drop n (x ∷ text))) one ∙ words_from text ∙ sym (words_behind_space x text e)) | false ↦ λ _. refl ] refl

-- the parts of a word with what stands behind it
record Parts (word rest : List ℕ) : Type 0 where
  more : List (List ℕ)
  is : slice_split is_space (word ++ rest) ≡ word ∷ more
  words : filter some more ≡ words_of rest

parts_behind : (rest : List ℕ) → IsBehindWord rest → Parts [] rest
unfolding words_of
parts_behind [] h = record { more = []; is = refl; words = refl }
parts_behind (x ∷ rest) h =
    record {
      more = slice_split is_space rest;
      is = ap (λ v. cond v ([] ∷ slice_split is_space rest) (onto_first x (slice_split is_space rest))) h;
      words = sym (words_behind_space x rest h);
    }

not_so : (b : Bool) → not b ≡ true → b ≡ false
not_so true h = cc
not_so false h = refl

parts_of : (word rest : List ℕ) → list_all is_word_byte word ≡ true → IsBehindWord rest → Parts word rest
parts_of [] rest h k = parts_behind rest k
parts_of (x ∷ word) rest h k =
    let p = and_parts (is_word_byte x) (list_all is_word_byte word) h in
    let parts = parts_of word rest p.1 k in
    record {
      more = parts.more;
      is =
          ap (λ v. cond v ([] ∷ slice_split is_space (word ++ rest)) (onto_first x (slice_split is_space (word ++ rest)))) (not_so (is_space x) p.0)
          ∙ ap (onto_first x) parts.is;
      words = parts.words;
    }

pub words_word : (word rest : List ℕ) → is_word word ≡ true → IsBehindWord rest → words_of (word ++ rest) ≡ word ∷ words_of rest
unfolding words_of
words_word word rest h k =
    let p = and_parts (some word) (list_all is_word_byte word) h in
    let parts = parts_of word rest p.1 k in
    ap (filter some) parts.is ∙ ap (λ v. cond v (word ∷ filter some parts.more) (filter some parts.more)) p.0 ∙ ap (λ ws. word ∷ ws) parts.words

some_cons : (x : ℕ) (text : List ℕ) → some (x ∷ text) ≡ true
some_cons x text = grind (arith, nat_tests)

words_of_nothing : words_of [] ≡ []
unfolding words_of
words_of_nothing = refl

-- what stands behind the first word
behind_from : (text w : List ℕ) (ws : List (List ℕ)) → IsFromWord text → words_of text ≡ w ∷ ws → words_of (drop (prefix_len is_word_byte text) text) ≡ ws
behind_from [] w ws h e = let none : words_of [] ≡ [] = words_of_nothing in cc
behind_from (x ∷ text) w ws h e =
    let n = prefix_len is_word_byte (x ∷ text) in
    let one : 1 + prefix_len is_word_byte text ≡ suc (prefix_len is_word_byte text) = omega arith in
    let long : n ≡ suc (prefix_len is_word_byte text) = ap (λ v. cond (not v) (1 + prefix_len is_word_byte text) 0) h ∙ one in
    let first : is_word (take n (x ∷ text)) ≡ true = and_true (ap (λ m. some (take m (x ∷ text))) long ∙ some_cons x (take (prefix_len is_word_byte text) text)) (all_of_prefix is_word_byte (x ∷ text)) in
    let parts : words_of (x ∷ text) ≡ take n (x ∷ text) ∷ words_of (drop n (x ∷ text)) = ap words_of (sym (take-append-drop n (x ∷ text))) ∙ words_word (take n (x ∷ text)) (drop n (x ∷ text)) first (is_behind (x ∷ text)) in
    cc

words_behind : (text w : List ℕ) (ws : List (List ℕ)) → words_of text ≡ w ∷ ws → words_of (behind_word text) ≡ ws
words_behind text w ws e = behind_from (from_word text) w ws (is_from_word text) (words_from text ∙ e)

-- the end of a text -----------------------------------------------------------------------------------------------------------

-- a text with spaces behind it has the same words
record Same (a b : List ℕ) : Type 0 where
  first : List ℕ
  more : List (List ℕ)
  longer : List (List ℕ)
  is : slice_split is_space a ≡ first ∷ more
  with : slice_split is_space (a ++ b) ≡ first ∷ longer
  same : filter some longer ≡ filter some more

record Blank (b : List ℕ) : Type 0 where
  more : List (List ℕ)
  is : slice_split is_space b ≡ [] ∷ more
  none : filter some more ≡ []

blank_parts : (b : List ℕ) → list_all is_space b ≡ true → Blank b
blank_parts [] h = record { more = []; is = refl; none = refl }
blank_parts (x ∷ b) h =
    let p = and_parts (is_space x) (list_all is_space b) h in
    let rest = blank_parts b p.1 in
    record {
      more = slice_split is_space b;
      is = ap (λ v. cond v ([] ∷ slice_split is_space b) (onto_first x (slice_split is_space b))) p.0;
      none = ap (filter some) rest.is ∙ rest.none;
    }

same_parts : (a b : List ℕ) → list_all is_space b ≡ true → Same a b
same_parts [] b h = let blank = blank_parts b h in record { first = []; more = []; longer = blank.more; is = refl; with = blank.is; same = blank.none }
same_parts (x ∷ a) b h = by_test (is_space x) (same_parts a b h) refl
  where
    by_test : (v : Bool) → Same a b → is_space x ≡ v → Same (x ∷ a) b
    by_test true s e =
        record {
          first = [];
          more = slice_split is_space a;
          longer = slice_split is_space (a ++ b);
          is = ap (λ v. cond v ([] ∷ slice_split is_space a) (onto_first x (slice_split is_space a))) e;
          with = ap (λ v. cond v ([] ∷ slice_split is_space (a ++ b)) (onto_first x (slice_split is_space (a ++ b)))) e;
          same = ap (filter some) s.with ∙ ap (λ ws. cond (some s.first) (s.first ∷ ws) ws) s.same ∙ sym (ap (filter some) s.is);
        }
    by_test false s e =
        record {
          first = x ∷ s.first;
          more = s.more;
          longer = s.longer;
          is = ap (λ v. cond v ([] ∷ slice_split is_space a) (onto_first x (slice_split is_space a))) e ∙ ap (onto_first x) s.is;
          with = ap (λ v. cond v ([] ∷ slice_split is_space (a ++ b)) (onto_first x (slice_split is_space (a ++ b)))) e ∙ ap (onto_first x) s.with;
          same = s.same;
        }

words_before_spaces : (a b : List ℕ) → list_all is_space b ≡ true → words_of (a ++ b) ≡ words_of a
unfolding words_of
words_before_spaces a b h =
    let s = same_parts a b h in ap (filter some) s.with ∙ ap (λ ws. cond (some s.first) (s.first ∷ ws) ws) s.same ∙ sym (ap (filter some) s.is)

-- the spaces at the end of a text, and what stands before them
abbrev spaces_at_end : List ℕ → List ℕ
spaces_at_end text = reverse (take (suffix_len is_space text) (reverse text))

abbrev before_spaces : List ℕ → List ℕ
before_spaces text = reverse (from_word (reverse text))

text_parts : (text : List ℕ) → text ≡ before_spaces text ++ spaces_at_end text
text_parts text =
    sym (reverse-reverse text) ∙ ap reverse (sym (take-append-drop (suffix_len is_space text) (reverse text)))
    ∙ reverse-append (take (suffix_len is_space text) (reverse text)) (drop (suffix_len is_space text) (reverse text))

to_word_is : (text : List ℕ) → to_word text ≡ before_spaces text
to_word_is text =
    let k = suffix_len is_space text in
    let long : length (before_spaces text) ≡ length text - k = length-reverse (from_word (reverse text)) ∙ length-drop k (reverse text) ∙ ap (λ n. n - k) (length-reverse text) in
    ap (λ n. take n text) (sym long) ∙ ap (take (length (before_spaces text))) (text_parts text)
    ∙ take-append-le (length (before_spaces text)) (before_spaces text) (spaces_at_end text) (omega arith) ∙ take_all (length (before_spaces text)) (before_spaces text) (omega arith)

all_reversed : (p : ℕ → Bool) (xs : List ℕ) → list_all p xs ≡ true → list_all p (reverse xs) ≡ true
all_reversed p [] h = refl
all_reversed p (x ∷ xs) h =
    let parts = and_parts (p x) (list_all p xs) h in
    ap (list_all p) (reverse-append (x ∷ []) xs) ∙ all_both (reverse xs) (x ∷ []) (all_reversed p xs parts.1) (and_true parts.0 refl)
  where
    all_both : (a b : List ℕ) → list_all p a ≡ true → list_all p b ≡ true → list_all p (a ++ b) ≡ true
    all_both [] b h k = k
    all_both (y ∷ a) b h k = let parts = and_parts (p y) (list_all p a) h in and_true parts.0 (all_both a b parts.1 k)

words_to : (text : List ℕ) → words_of (to_word text) ≡ words_of text
words_to text =
    ap words_of (to_word_is text)
    ∙ sym (ap words_of (text_parts text) ∙ words_before_spaces (before_spaces text) (spaces_at_end text) (all_reversed is_space (take (suffix_len is_space text) (reverse text)) (all_of_prefix is_space (reverse text))))

-- the words of a query are those of its line behind the first two
pub words_of_query : (line w v : List ℕ) (ws : List (List ℕ)) → words_of line ≡ w ∷ v ∷ ws → words_of (query_of line) ≡ ws
unfolding query_of
words_of_query line w v ws e =
    words_to (from_word (behind_word (behind_word line))) ∙ words_from (behind_word (behind_word line))
    ∙ words_behind (behind_word line) v ws (words_behind line w (v ∷ ws) e)

-- a text that begins with a word, and a front of it
begins_front : (text : List ℕ) (m : ℕ) (w : List ℕ) (ws : List (List ℕ)) → IsFromWord text → words_of (take m text) ≡ w ∷ ws → begins_with_word (take m text) ≡ true
begins_front [] zero w ws h e = let none : words_of [] ≡ [] = words_of_nothing in cc
begins_front [] (suc m) w ws h e = let none : words_of [] ≡ [] = words_of_nothing in cc
begins_front (x ∷ text) zero w ws h e = let none : words_of [] ≡ [] = words_of_nothing in cc
begins_front (x ∷ text) (suc m) w ws h e = ap not h

begins_from : (text : List ℕ) → IsFromWord text → nat_lt 0 (length text) ≡ true → begins_with_word text ≡ true
begins_from [] h some_ = cc
begins_from (x ∷ text) h some_ = ap not h

has_bytes : (text w : List ℕ) (ws : List (List ℕ)) → words_of text ≡ w ∷ ws → nat_lt 0 (length text) ≡ true
has_bytes [] w ws e = let none : words_of [] ≡ [] = words_of_nothing in cc
has_bytes (x ∷ text) w ws e = some_cons x text

-- the query of a line with a third word begins and ends with words
pub query_is_text : (line w : List ℕ) (ws : List (List ℕ)) → words_of (query_of line) ≡ w ∷ ws → is_query_text (query_of line) ≡ true
unfolding query_of
query_is_text line w ws e =
    let text = from_word (behind_word (behind_word line)) in
    let turned : reverse (to_word text) ≡ from_word (reverse text) = ap reverse (to_word_is text) ∙ reverse-reverse (from_word (reverse text)) in
    let long : nat_lt 0 (length (from_word (reverse text))) ≡ true = ap (nat_lt 0) (ap length (sym turned) ∙ length-reverse (to_word text)) ∙ has_bytes (to_word text) w ws e in
    and_true (begins_front text (length text - suffix_len is_space text) w ws (is_from_word (behind_word (behind_word line))) e)
    (ap begins_with_word turned ∙ begins_from (from_word (reverse text)) (is_from_word (reverse text)) long)

-- a query text has a first word
pub query_words : (query : List ℕ) → begins_with_word query ≡ true → (w : List ℕ) × (ws : List (List ℕ)) × (words_of query ≡ w ∷ ws)
query_words [] h = cc
query_words (x ∷ text) h =
    let n = prefix_len is_word_byte (x ∷ text) in
    let one : 1 + prefix_len is_word_byte text ≡ suc (prefix_len is_word_byte text) = omega arith in
    let long : n ≡ suc (prefix_len is_word_byte text) = ap (λ v. cond v (1 + prefix_len is_word_byte text) 0) h ∙ one in
    let first : is_word (take n (x ∷ text)) ≡ true = and_true (ap (λ m. some (take m (x ∷ text))) long ∙ some_cons x (take (prefix_len is_word_byte text) text)) (all_of_prefix is_word_byte (x ∷ text)) in
    (take n (x ∷ text), words_of (drop n (x ∷ text)), ap words_of (sym (take-append-drop n (x ∷ text))) ∙ words_word (take n (x ∷ text)) (drop n (x ∷ text)) first (is_behind (x ∷ text)))

-- the line of a SELECT ------------------------------------------------------------------------------------------------------

-- a line of two words and a text behind them
abbrev pub line_of : List ℕ → List ℕ → List ℕ → List ℕ
line_of w v query = w ++ 32 ∷ (v ++ 32 ∷ query)

pub words_of_line : (w v query : List ℕ) → is_word w ≡ true → is_word v ≡ true → words_of (line_of w v query) ≡ w ∷ v ∷ words_of query
words_of_line w v query h k =
    words_word w (32 ∷ (v ++ 32 ∷ query)) h refl
    ∙ ap (λ ws. w ∷ ws) (words_behind_space 32 (v ++ 32 ∷ query) refl ∙ words_word v (32 ∷ query) k refl ∙ ap (λ ws. v ∷ ws) (words_behind_space 32 query refl))

-- a text that begins with a word is its own
from_begun : (text : List ℕ) → begins_with_word text ≡ true → from_word text ≡ text
from_begun [] h = refl
from_begun (x ∷ text) h = ap (λ v. drop (cond v (1 + prefix_len is_space text) 0) (x ∷ text)) (not_so (is_space x) h)

from_space : (text : List ℕ) → from_word (32 ∷ text) ≡ from_word text
from_space text = let one : 1 + prefix_len is_space text ≡ suc (prefix_len is_space text) = omega arith in ap (λ n. drop n (32 ∷ text)) one

word_begins : (word rest : List ℕ) → is_word word ≡ true → begins_with_word (word ++ rest) ≡ true
word_begins [] rest h = cc
word_begins (x ∷ word) rest h =
    let p = and_parts (some (x ∷ word)) (list_all is_word_byte (x ∷ word)) h in
    let q = and_parts (is_word_byte x) (list_all is_word_byte word) p.1 in
    q.0

word_long : (word rest : List ℕ) → list_all is_word_byte word ≡ true → prefix_len is_word_byte (word ++ 32 ∷ rest) ≡ length word
word_long [] rest h = refl
word_long (x ∷ word) rest h =
    let p = and_parts (is_word_byte x) (list_all is_word_byte word) h in
    let one : 1 + length word ≡ suc (length word) = omega arith in
    ap (λ v. cond v (1 + prefix_len is_word_byte (word ++ 32 ∷ rest)) 0) p.0 ∙ ap (λ n. 1 + n) (word_long word rest p.1) ∙ one

behind_first : (word rest : List ℕ) → is_word word ≡ true → behind_word (word ++ 32 ∷ rest) ≡ 32 ∷ rest
behind_first word rest h =
    let p = and_parts (some word) (list_all is_word_byte word) h in
    ap (λ text. drop (prefix_len is_word_byte text) text) (from_begun (word ++ 32 ∷ rest) (word_begins word (32 ∷ rest) h))
    ∙ ap (λ n. drop n (word ++ 32 ∷ rest)) (word_long word rest p.1) ∙ drop-append_seam word (32 ∷ rest)

behind_space : (text : List ℕ) → behind_word (32 ∷ text) ≡ behind_word text
behind_space text = ap (λ t. drop (prefix_len is_word_byte t) t) (from_space text)

to_ended : (text : List ℕ) → begins_with_word (reverse text) ≡ true → to_word text ≡ text
to_ended text h = to_word_is text ∙ ap reverse (from_begun (reverse text) h) ∙ reverse-reverse text

pub query_of_line : (w v query : List ℕ) → is_word w ≡ true → is_word v ≡ true → is_query_text query ≡ true → query_of (line_of w v query) ≡ query
unfolding query_of
query_of_line w v query h k q =
    let p = and_parts (begins_with_word query) (begins_with_word (reverse query)) q in
    let behind : behind_word (behind_word (line_of w v query)) ≡ 32 ∷ query =
    ap behind_word (behind_first w (v ++ 32 ∷ query) h) ∙ behind_space (v ++ 32 ∷ query) ∙ behind_first v query k in
    ap (λ t. to_word (from_word t)) behind ∙ ap to_word (from_space query ∙ from_begun query p.0) ∙ to_ended query p.1
