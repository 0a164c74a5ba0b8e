-- Numbers of 64 bits, as the library reads them.
use Rattle.std.proofs.Common.{◌≡◌, ◌≢◌, ◌∙◌, ℕ, ◌+◌, ◌-◌, ◌*◌, ◌^◌, ◌<◌, ◌==◌, ◌&&◌, ◌||◌, Bool, true, false, not, nat_lt, nat_le, List, [], ◌∷◌, length, slice_index, Result, Ok, Err, Some, None, refl, sym, ap, subst, inl, inr, arith, if◌then◌else◌}
use Rattle.std.specs.Result.{result_ok}
use Rattle.std.specs.List.{list_all}
use Rattle.std.specs.Char.{is_ascii_digit, digit_value}
use Rattle.std.specs.Str.Parse.{ParsesUnsigned, IsNumeral, AllDigits, digits_value_after, digits_value, without_leading_plus}
use Rattle.std.proofs.lemmas.Bool.{cases_Bool, and_parts}
use Rattle.std.proofs.lemmas.Bool.Decides.{nat_tests}
use Rattle.plan_schema.specs.declared.fault.Rule.{Rule}
use Rattle.plan_schema.specs.declared.fault.Rule.TheVariants.{Shape, Range}
use Rattle.row_text.specs.Number.{number_from, is_number, number_of}
use Rattle.program_words.specs.Words.{number_in}

digit_is : (b : ℕ) → is_ascii_digit b ≡ true → (digit_value b < 10) × (digit_value b ≡ b - 48)
digit_is b h =
    let low : nat_lt b 48 ≡ false = grind (arith, nat_tests) in
    let high : nat_lt b 58 ≡ true = grind (arith, nat_tests) in
    let below : b - 48 < 10 = grind (arith, nat_tests) in
    rw (low, high) (below, refl)

all_digits : (text : List ℕ) → list_all is_ascii_digit text ≡ true → AllDigits 10 text
all_digits [] h = tt
all_digits (b ∷ text) h = let both = and_parts (is_ascii_digit b) (list_all is_ascii_digit text) h in ((digit_is b both.0).0, all_digits text both.1)

same_value : (text : List ℕ) (n : ℕ) → list_all is_ascii_digit text ≡ true → digits_value_after 10 n text ≡ number_from n text
same_value [] n h = refl
same_value (b ∷ text) n h =
    let both = and_parts (is_ascii_digit b) (list_all is_ascii_digit text) h in
    let next : n * 10 + digit_value b ≡ 10 * n + (b - 48) = omega (arith, (digit_is b both.0).1) in
    ap (λ k. digits_value_after 10 k text) next ∙ same_value text (10 * n + (b - 48)) both.1

-- what a text of the form of a number comes to, or any other
abbrev read_as : Bool → Bool → ℕ → Result ℕ Rule
read_as formed fits n = if formed then (if fits then Ok n else Err Range) else Err Shape

unformed : (formed fits : Bool) (n : ℕ) → Err Shape ≡ read_as formed fits n → formed ≡ false
unformed true true n h = cc
unformed true false n h = cc
unformed false fits n h = refl

is_formed : (formed fits : Bool) (n : ℕ) → read_as formed fits n ≢ Err Shape → formed ≡ true
is_formed true fits n h = refl
is_formed false fits n h = absurd (h refl)

pub no_number : (word : List ℕ) → Err Shape ≡ number_of 0 0 word → number_in 0 18446744073709551615 word ≡ None
unfolding number_of
no_number word h = rw (unformed (is_number word) _ _ h) refl

-- a number begins with a digit
no_plus : (word : List ℕ) → is_number word ≡ true → without_leading_plus word ≡ word
no_plus [] h = cc
no_plus (b ∷ text) h =
    let digits = and_parts (list_all is_ascii_digit (b ∷ text) && nat_lt 0 (length (b ∷ text))) (not (b == 48) || (length (b ∷ text) == 1)) h in
    let all = and_parts (list_all is_ascii_digit (b ∷ text)) (nat_lt 0 (length (b ∷ text))) digits.0 in
    let first = and_parts (is_ascii_digit b) (list_all is_ascii_digit text) all.0 in
    let other : (b == 43) ≡ false = grind (arith, nat_tests, first) in
    rw other refl

is_numeral : (word : List ℕ) → is_number word ≡ true → IsNumeral 10 word × (digits_value 10 word ≡ number_from 0 word)
is_numeral word h =
    let digits = and_parts (list_all is_ascii_digit word && nat_lt 0 (length word)) (not (slice_index word 0 == 48) || (length word == 1)) h in
    let all = and_parts (list_all is_ascii_digit word) (nat_lt 0 (length word)) digits.0 in
    let some : 0 < length word = grind (arith, nat_tests, all) in
    ((some, all_digits word all.0), same_value word 0 all.0)

pub long_read : {E : Type 0} (word : List ℕ) (r : Result ℕ E) → number_of 0 0 word ≢ Err Shape → ParsesUnsigned 64 10 word r → result_ok r ≡ number_in 0 18446744073709551615 word
unfolding number_of
long_read word (Ok n) h parsed =
    let formed = is_formed (is_number word) _ _ h in
    let numeral = is_numeral word formed in
    let value : n ≡ number_from 0 word = parsed.1 ∙ ap (digits_value 10) (no_plus word formed) ∙ numeral.1 in
    let small : number_from 0 word < 2 ^ 64 = subst (λ v. v < 2 ^ 64) (ap (digits_value 10) (no_plus word formed) ∙ numeral.1) parsed.0.1 in
    let fits : nat_le (number_from 0 word) 18446744073709551615 ≡ true = grind (arith, nat_tests) in
    let least : nat_le 0 (number_from 0 word) ≡ true = grind (arith, nat_tests) in
    rw (formed, least, fits) (ap Some value)
long_read word (Err e) h parsed =
    let formed = is_formed (is_number word) _ _ h in
    let numeral = is_numeral word formed in
    let large : number_from 0 word < 2 ^ 64 → ⊥ = λ small. parsed (subst (λ (w : List ℕ). IsNumeral 10 w × (digits_value 10 w < 2 ^ 64)) (sym (no_plus word formed)) (numeral.0, subst (λ v. v < 2 ^ 64) (sym numeral.1) small)) in
    elim (cases_Bool (nat_le (number_from 0 word) 18446744073709551615)) [
      | inl fits ↦ (let small : number_from 0 word < 2 ^ 64 = grind (arith, nat_tests) in absurd (large small))
      | inr over ↦ (let least : nat_le 0 (number_from 0 word) ≡ true = grind (arith, nat_tests) in rw (formed, least, over) refl)
    ]
