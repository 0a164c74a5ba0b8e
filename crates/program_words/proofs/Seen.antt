-- What the parser sees in a word of each kind.
use lib.Utf8.{encode}
use Rattle.std.proofs.Common.{if◌then◌else◌, take, ◌+◌, suc, ◌≡◌, ◌∙◌, ◌∷◌, ◌++◌, [], ℕ, ◌==◌, Bool, true, false, ap, refl, sym, subst, length, codes, Option, Some, None, inl, inr, ◌⊎◌, IsUtf8, slice_get, encode_utf8_all, rules, arith}
use Rattle.std.specs.List.{before_first, position_or_len}
use Rattle.std.specs.Str.{bytes_eq, chars}
use Rattle.std.specs.Cmp.Lexicographic.{same_text}
use Rattle.std.proofs.lemmas.Bool.{cases_Bool}
use Rattle.std.proofs.lemmas.Bool.Decides.{nat_tests}
use Rattle.std.proofs.lemmas.Str.{encodes-chars}
use Rattle.clap.specs.Words.{Text}
use Rattle.clap.specs.Lexer.{long_of, short_of}
use Rattle.clap.specs.Walk.{Held, Waiting, idle, option, positional}
use Rattle.clap.specs.Faults.{turn_fault, flags_fault}
use Rattle.clap.specs.declared.error.kind.ErrorKind.TheVariants as kind
use Rattle.program_words.specs.Cut.{Kind, ends, takes_next, has, unknown, name, kind_of, kind_by, is_dashed, behind}
use Rattle.program_words.proofs.Steps.{shape, at, unknown-fault}

-- a word that is no option
pub record IsName (word : Text) : Type 0 where
  pub dashes : bytes_eq word (45 ∷ 45 ∷ []) ≡ false
  pub long : long_of word ≡ None
  pub short : short_of word ≡ None

-- a word that the parser refuses, whatever stands before it
abbrev pub IsRefused : Text → Type 0
IsRefused word = (h : Held) (w : Waiting) → h.skip ≡ 0 → turn_fault shape [] (at h w false) word ≡ kind.UnknownArgument ∷ []

abbrev pub Seen : Text → Kind → Type 0
Seen word ends = word ≡ codes "--"
Seen word takes_next = word ≡ codes "--memo"
Seen word (has value) = word ≡ 45 ∷ 45 ∷ 109 ∷ 101 ∷ 109 ∷ 111 ∷ 61 ∷ value
Seen word unknown = IsRefused word
Seen word name = IsName word

same_byte : (b c : ℕ) → (b == c) ≡ true → b ≡ c
same_byte b c h = grind (arith, nat_tests)

behind-is : (start word v : Text) → behind start word ≡ Some v → word ≡ start ++ v
behind-is [] word v h = search rules
behind-is (b ∷ start) [] v h = cc
behind-is (b ∷ start) (c ∷ word) v h = elim (cases_Bool (b == c)) [
  | inl same ↦ (let rest : behind start word ≡ Some v = rw same at h in ap (λ n. n ∷ word) (sym (same_byte b c same)) ∙ ap (λ l. b ∷ l) (behind-is start word v rest))
  | inr other ↦ (let none : None ≡ Some v = rw other at h in cc)
]

take-next : (n x : ℕ) (xs : Text) → take (1 + n) (x ∷ xs) ≡ x ∷ take n xs
take-next n x xs = let one : 1 + n ≡ suc n = omega arith in ap (λ k. take k (x ∷ xs)) one

before-more : (x : ℕ) (xs : Text) → (x == 61) ≡ false → before_first (λ b. b == 61) (x ∷ xs) ≡ x ∷ before_first (λ b. b == 61) xs
before-more x xs other = rw other (take-next (position_or_len (λ b. b == 61) xs) x xs)

-- a text is what stands before its first `=`, and nothing or `=` and more
before-is : (text : Text) → (text ≡ before_first (λ x. x == 61) text) ⊎ ((v : Text) × (text ≡ before_first (λ x. x == 61) text ++ 61 ∷ v))
before-is [] = inl refl
before-is (x ∷ xs) = elim (cases_Bool (x == 61)) [
  | inl same ↦ rw same (inr (xs, ap (λ n. n ∷ xs) (same_byte x 61 same)))
  | inr other ↦ elim (before-is xs) [
    | inl whole ↦ inl (ap (λ l. x ∷ l) whole ∙ sym (before-more x xs other))
    | inr cut ↦ inr (cut.0, ap (λ l. x ∷ l) cut.1 ∙ ap (λ l. l ++ 61 ∷ cut.0) (sym (before-more x xs other)))
  ]
]

-- `-x`, with no `-` behind the first
bundle-unknown : (x : ℕ) (xs : Text) (c : ℕ) (h : Held) → slice_get (chars (x ∷ xs)) 0 ≡ Some c → flags_fault shape.rules false (length (x ∷ xs)) (x ∷ xs) 0 h ≡ kind.UnknownArgument ∷ []
unfolding flags_fault
bundle-unknown x xs c h first = rw first refl

bundle-turn : (word flags : Text) (h : Held) (w : Waiting) → bytes_eq word (45 ∷ 45 ∷ []) ≡ false → long_of word ≡ None → short_of word ≡ Some flags
    → flags_fault shape.rules false (length flags) flags h.skip (record h { skip = 0 }) ≡ kind.UnknownArgument ∷ [] → turn_fault shape [] (at h w false) word ≡ kind.UnknownArgument ∷ []
bundle-turn word flags h idle dashes long short fault = rw (dashes, long, short, fault) refl
bundle-turn word flags h positional dashes long short fault = rw (dashes, long, short, fault) refl
bundle-turn word flags h (option id) dashes long short fault = rw (dashes, long, short, fault) refl

short-refused : (x : ℕ) (xs : Text) → (x == 45) ≡ false → (c : ℕ) → slice_get (chars (x ∷ xs)) 0 ≡ Some c → IsRefused (45 ∷ x ∷ xs)
short-refused x xs other c first h w skip =
    bundle-turn (45 ∷ x ∷ xs) (x ∷ xs) h w (rw other refl) (rw other refl) (rw other refl)
    (ap (λ n. flags_fault shape.rules false (length (x ∷ xs)) (x ∷ xs) n (record h { skip = 0 })) skip ∙ bundle-unknown x xs c (record h { skip = 0 }) first)

-- a text behind `-` has a first character
first_char : (x : ℕ) (xs : Text) → IsUtf8 (45 ∷ x ∷ xs) → (c : ℕ) × (slice_get (chars (x ∷ xs)) 0 ≡ Some c)
unfolding chars lib.Utf8.encode
first_char x xs u =
    elim (chars (x ∷ xs)) as (λ cs. chars (x ∷ xs) ≡ cs → (c : ℕ) × (slice_get cs 0 ≡ Some c)) [
      | [] ↦ λ none. (let short : 45 ∷ [] ≡ 45 ∷ x ∷ xs = ap (λ cs. encode_utf8_all (45 ∷ cs)) (sym none) ∙ encodes-chars (45 ∷ x ∷ xs) u in cc)
      | c ∷ cs ↦ λ some. (c, refl)
    ] refl

-- `--NAME` or `--NAME=VALUE`, where the name isn't `memo`
long-refused : (x : ℕ) (xs : Text) → bytes_eq (45 ∷ 45 ∷ x ∷ xs) (codes "--memo") ≡ false → behind (codes "--memo=") (45 ∷ 45 ∷ x ∷ xs) ≡ None → IsRefused (45 ∷ 45 ∷ x ∷ xs)
long-refused x xs alone valued h w skip =
    elim (cases_Bool (bytes_eq (codes "memo") (before_first (λ b. b == 61) (x ∷ xs)))) [
      | inl same ↦ (
          let memo : codes "memo" ≡ before_first (λ b. b == 61) (x ∷ xs) = same_text _ _ (sym same) in
          elim (before-is (x ∷ xs)) [
            | inl whole ↦ (let bad : true ≡ false = ap (λ l. bytes_eq (45 ∷ 45 ∷ l) (codes "--memo")) (memo ∙ sym whole) ∙ alone in cc)
            | inr cut ↦ (let bad : Some cut.0 ≡ None = ap (λ l. behind (codes "--memo=") (45 ∷ 45 ∷ l)) (ap (λ l. l ++ 61 ∷ cut.0) memo ∙ sym cut.1) ∙ valued in cc)
          ])
      | inr other ↦ unknown-fault (45 ∷ 45 ∷ x ∷ xs) (before_first (λ b. b == 61) (x ∷ xs)) _ h w refl refl other
    ]

-- what each word of this form comes to
abbrev Refuses : Text → Type 0
Refuses word = IsUtf8 word → bytes_eq word (codes "--") ≡ false → bytes_eq word (codes "--memo") ≡ false → behind (codes "--memo=") word ≡ None → IsRefused word

dashed-from : (b : ℕ) (more : Text) → Refuses (45 ∷ b ∷ more)
dashed-from b [] u unended alone valued = elim (cases_Bool (b == 45)) [
  | inl same ↦ (let bad : true ≡ false = ap (λ n. bytes_eq (45 ∷ n ∷ []) (codes "--")) (sym (same_byte b 45 same)) ∙ unended in cc)
  | inr other ↦ (let c = first_char b [] u in short-refused b [] other c.0 c.1)
]
dashed-from b (x ∷ xs) u unended alone valued = elim (cases_Bool (b == 45)) [
  | inl same ↦ subst (λ n. bytes_eq (45 ∷ n ∷ x ∷ xs) (codes "--memo") ≡ false → behind (codes "--memo=") (45 ∷ n ∷ x ∷ xs) ≡ None → IsRefused (45 ∷ n ∷ x ∷ xs)) (sym (same_byte b 45 same)) (long-refused x xs) alone valued
  | inr other ↦ (let c = first_char b (x ∷ xs) u in short-refused b (x ∷ xs) other c.0 c.1)
]

dashed-refused : (word : Text) → is_dashed word ≡ true → Refuses word
dashed-refused [] dashed = cc
dashed-refused (a ∷ []) dashed = cc
dashed-refused (a ∷ b ∷ more) dashed = subst (λ n. Refuses (n ∷ b ∷ more)) (sym (same_byte a 45 dashed)) (dashed-from b more)

undashed-name : (word : Text) → is_dashed word ≡ false → IsName word
undashed-name [] h = record { dashes = refl; long = refl; short = refl }
undashed-name (a ∷ []) h = elim (cases_Bool (a == 45)) [
  | inl same ↦ record { dashes = rw same refl; long = rw same refl; short = rw same refl }
  | inr other ↦ record { dashes = rw other refl; long = rw other refl; short = rw other refl }
]
undashed-name (a ∷ b ∷ more) h = record { dashes = rw h refl; long = rw h refl; short = rw h refl }

by_value : (word : Text) → IsUtf8 word → bytes_eq word (codes "--") ≡ false → bytes_eq word (codes "--memo") ≡ false → (found : Option Text) → behind (codes "--memo=") word ≡ found → Seen word (kind_by found (is_dashed word))
by_value word u unended alone (Some v) valued = behind-is (codes "--memo=") word v valued
by_value word u unended alone None valued = elim (cases_Bool (is_dashed word)) [
  | inl dashed ↦ rw dashed (dashed-refused word dashed u unended alone valued)
  | inr plain ↦ rw plain (undashed-name word plain)
]

-- by the two tests of the whole word
abbrev kind_at : Bool → Bool → Text → Kind
kind_at ending alone word = if ending then ends else (if alone then takes_next else kind_by (behind (codes "--memo=") word) (is_dashed word))

by_tests : (word : Text) → IsUtf8 word → (ending alone : Bool) → bytes_eq word (codes "--") ≡ ending → bytes_eq word (codes "--memo") ≡ alone → Seen word (kind_at ending alone word)
by_tests word u true alone is_end is_memo = same_text word (codes "--") (sym is_end)
by_tests word u false true is_end is_memo = same_text word (codes "--memo") (sym is_memo)
by_tests word u false false is_end is_memo = by_value word u is_end is_memo (behind (codes "--memo=") word) refl

pub seen : (word : Text) → IsUtf8 word → Seen word (kind_of word)
seen word u = by_tests word u (bytes_eq word (codes "--")) (bytes_eq word (codes "--memo")) refl refl
