-- Words whose bytes are seen: names, numbers and days.
use Rattle.std.proofs.Common.{◌≡◌, ℕ, ◌+◌, ◌^◌, ◌<◌, Bool, true, ◌&&◌, nat_lt, nat_le, List, [], ◌∷◌, ◌++◌, length, refl, arith}
use Rattle.std.specs.Prelude.{◌/◌, ◌%◌, decimal}
use Rattle.std.specs.List.{list_all}
use Rattle.std.specs.Char.{is_ascii_digit}
use Rattle.std.proofs.lemmas.Bool.{and_parts}
use Rattle.std.proofs.lemmas.Bool.Decides.{nat_tests}
use Rattle.std.proofs.lemmas.Fmt.{digits_decimal, decimal_nonempty}
use Rattle.plan_schema.specs.Name.{is_name, is_name_byte, starts_name}
use Rattle.plan_schema.specs.Day.{Civil, date_of, date_text, day_text}
use Rattle.row_text.proofs.Fields.{and_true, own}
use Rattle.command_words.specs.Words.{is_word_byte, is_word}

-- a byte that comes after the space
abbrev pub is_seen : ℕ → Bool
is_seen byte = nat_lt 32 byte

abbrev pub is_seen_word : List ℕ → Bool
is_seen_word word = nat_lt 0 (length word) && list_all is_seen word

pub all_more : (p q : ℕ → Bool) → ((x : ℕ) → p x ≡ true → q x ≡ true) → (xs : List ℕ) → list_all p xs ≡ true → list_all q xs ≡ true
all_more p q more [] h = refl
all_more p q more (x ∷ xs) h = let parts = and_parts (p x) (list_all p xs) h in and_true (more x parts.0) (all_more p q more xs parts.1)

seen_is_of_word : (x : ℕ) → is_seen x ≡ true → is_word_byte x ≡ true
seen_is_of_word x h = grind (arith, nat_tests)

name_byte_is_seen : (x : ℕ) → is_name_byte x ≡ true → is_seen x ≡ true
name_byte_is_seen x h = grind (arith, nat_tests)

digit_is_seen : (x : ℕ) → is_ascii_digit x ≡ true → is_seen x ≡ true
digit_is_seen x h = grind (arith, nat_tests)

pub seen_word : (word : List ℕ) → is_seen_word word ≡ true → is_word word ≡ true
seen_word word h = let p = and_parts (nat_lt 0 (length word)) (list_all is_seen word) h in and_true p.0 (all_more is_seen is_word_byte seen_is_of_word word p.1)

pub seen_words : (words : List (List ℕ)) → list_all is_seen_word words ≡ true → list_all is_word words ≡ true
seen_words [] h = refl
seen_words (word ∷ words) h = let p = and_parts (is_seen_word word) (list_all is_seen_word words) h in and_true (seen_word word p.0) (seen_words words p.1)

some_name : (name : List ℕ) → starts_name name ≡ true → nat_lt 0 (length name) ≡ true
some_name [] h = cc
some_name (x ∷ name) h = grind (arith, nat_tests)

pub name_seen : (name : List ℕ) → is_name name ≡ true → is_seen_word name ≡ true
unfolding is_name
name_seen name h =
    let outer = and_parts (nat_le (length name) 32 && starts_name name) (list_all is_name_byte name) h in
    let inner = and_parts (nat_le (length name) 32) (starts_name name) outer.0 in
    and_true (some_name name inner.1) (all_more is_name_byte is_seen name_byte_is_seen name outer.1)

pub number_seen : (n : ℕ) → n < 2 ^ 64 → is_seen_word (decimal n) ≡ true
number_seen n big =
    let some : 0 < length (decimal n) = decimal_nonempty n big in
    and_true (let t : nat_lt 0 (length (decimal n)) ≡ true = grind (arith, nat_tests) in t) (all_more is_ascii_digit is_seen digit_is_seen (decimal n) (digits_decimal own n big))

digit_seen : (n : ℕ) → is_seen (48 + n) ≡ true
digit_seen n = grind (arith, nat_tests)

date_seen : (date : Civil) → is_seen_word (date_text date) ≡ true
date_seen date =
    and_true refl (and_true (digit_seen (date.year / 1000)) (and_true (digit_seen (date.year / 100 % 10)) (and_true (digit_seen (date.year / 10 % 10)) (and_true (digit_seen (date.year % 10)) (and_true refl
    (and_true (digit_seen (date.month / 10)) (and_true (digit_seen (date.month % 10)) (and_true refl (and_true (digit_seen (date.day / 10)) (and_true (digit_seen (date.day % 10)) refl))))))))))

pub day_seen : (day : ℕ) → is_seen_word (day_text day) ≡ true
unfolding day_text
day_seen day = date_seen (date_of day)

pub one_seen : (word : List ℕ) → is_seen_word word ≡ true → list_all is_seen_word (word ∷ []) ≡ true
one_seen word h = and_true h refl

pub all-append : (p : ℕ → Bool) (xs ys : List ℕ) → list_all p xs ≡ true → list_all p ys ≡ true → list_all p (xs ++ ys) ≡ true
all-append p [] ys h k = k
all-append p (x ∷ xs) ys h k = let parts = and_parts (p x) (list_all p xs) h in and_true parts.0 (all-append p xs ys parts.1 k)
