-- What is read of a field is spelled so, and what is spelled so is read: names, numbers, days and the end of a row.
use Rattle.std.proofs.Common.{◌≡◌, ℕ, ◌^◌, ◌<◌, ◌≤◌, Bool, true, false, not, ◌&&◌, ◌||◌, cond, nat_eq, nat_le, List, [], ◌∷◌, length, get_or, Option, Some, None, Result, Ok, Err, zero, suc, inl, inr, refl, sym, ap, ◌∙◌, arith, rules}
use Rattle.std.specs.Prelude.{decimal}
use Rattle.std.specs.List.{slice_get, list_all}
use Rattle.std.specs.Cmp.{first_so}
use Rattle.std.specs.Cmp.Lexicographic.{pointwise, texts_ties}
use Rattle.std.specs.Char.{is_ascii_digit}
use Rattle.std.proofs.lemmas.Bool.Decides.{nat_tests}
use Rattle.std.proofs.lemmas.Bool.{cases_order}
use Rattle.std.proofs.lemmas.Fmt.{decimal-digits_value, digits_decimal, digits_value-decimal, decimal_nonempty, first_decimal, decimal_digit}
use Rattle.std.proofs.lemmas.Str.Parse.{IsNumeralModel, numerals_by_fold}
use Rattle.plan_schema.specs.declared.fault.Rule.{Rule}
use Rattle.plan_schema.specs.Name.{is_name}
use Rattle.plan_schema.specs.Day.{is_day, day_of, day_text}
use Rattle.plan_schema.specs.Key.{name_eq}
use Rattle.plan_schema.proofs.DayLaws.{day_alone}
use Rattle.row_text.specs.Number.{number_of, is_number, number_from}
use Rattle.row_text.specs.Row.{◌>>=◌, at_field, text_of_field, text_at, end_at, name_in, name_at, number_at, day_at, component_at}

pub and_true : {a b : Bool} → a ≡ true → b ≡ true → (a && b) ≡ true
and_true p q = λ i. p i && q i

pub le_true : (a b : ℕ) → a ≤ b → nat_le a b ≡ true
le_true a b h = grind (arith, nat_tests)

pub bind_ok : {A B E : Type 0} (r : Result A E) (f : A → Result B E) (y : B) → (r >>= f) ≡ Ok y → (x : A) × (r ≡ Ok x) × (f x ≡ Ok y)
bind_ok (Ok x) f y h = (x, refl, h)
bind_ok (Err e) f y h = cc

pub chosen_ok : {A E : Type 0} (b : Bool) (x : A) (e : E) (r : Result A E) (y : A) → cond b r (Err e) ≡ Ok y → (b ≡ true) × (r ≡ Ok y)
chosen_ok true x e r y h = (refl, h)
chosen_ok false x e r y h = cc

pub own : IsNumeralModel (λ ds. list_all is_ascii_digit ds ≡ true) (number_from 0)
own = numerals_by_fold _ (search rules) number_from (search rules)

pub number_takes : (low high : ℕ) (t : List ℕ) (n : ℕ) → high < 2 ^ 64 → number_of low high t ≡ Ok n → (t ≡ decimal n) × (low ≤ n) × (n ≤ high)
unfolding number_of
number_takes low high t n big h =
    let outer = chosen_ok (is_number t) 0 _ _ n h in
    let inner = chosen_ok (nat_le low (number_from 0 t) && nat_le (number_from 0 t) high) 0 _ _ n outer.1 in
    let value : number_from 0 t ≡ n = cc in
    let least : low ≤ number_from 0 t = grind (arith, nat_tests) in
    let most : number_from 0 t ≤ high = grind (arith, nat_tests) in
    let digits = first_so (list_all is_ascii_digit t) _ (first_so _ _ outer.0) in
    let some : 0 < length t = grind (arith, nat_tests) in
    let zero_alone : get_or t 0 0 ≡ 48 → length t ≡ 1 = λ z. grind (arith, nat_tests) in
    let spelled : decimal (number_from 0 t) ≡ t = decimal-digits_value own t digits some zero_alone (omega arith) in
    (sym spelled ∙ ap decimal value, omega arith, omega arith)

-- no digits of a number but those of 0 begin with 0
no_leading_zero : (n : ℕ) → n < 2 ^ 64 → (not (nat_eq (get_or (decimal n) 0 0) 48) || nat_eq (length (decimal n)) 1) ≡ true
no_leading_zero n big = elim (cases_order n 0) [
  | inl eq ↦ (let zero_text : decimal n ≡ 48 ∷ [] = ap decimal eq ∙ decimal_digit 0 (omega arith) in rw zero_text refl)
  | inr (inl lt) ↦ absurd (omega arith)
  | inr (inr gt) ↦ (let above : 48 < get_or (decimal n) 0 0 = first_decimal n gt big in grind (arith, nat_tests))
]

pub decimal_is_number : (n : ℕ) → n < 2 ^ 64 → is_number (decimal n) ≡ true
decimal_is_number n big =
    let digits : list_all is_ascii_digit (decimal n) ≡ true = digits_decimal own n big in
    let some : 0 < length (decimal n) = decimal_nonempty n big in
    let alone : (not (nat_eq (get_or (decimal n) 0 0) 48) || nat_eq (length (decimal n)) 1) ≡ true = no_leading_zero n big in
    grind (arith, nat_tests)

pub number_again : (low high n : ℕ) → high < 2 ^ 64 → low ≤ n → n ≤ high → number_of low high (decimal n) ≡ Ok n
unfolding number_of
number_again low high n big least most =
    let value : number_from 0 (decimal n) ≡ n = digits_value-decimal own n (omega arith) in
    let form : is_number (decimal n) ≡ true = decimal_is_number n (omega arith) in
    let within : (nat_le low n && nat_le n high) ≡ true = grind (arith, nat_tests) in
    rw (form, value, within)

pub text_at_ok : (fields : List (List ℕ)) (k : ℕ) (t : List ℕ) → text_at fields k ≡ Ok t → slice_get fields k ≡ Some t
unfolding text_at
text_at_ok fields k t h = given (slice_get fields k) h
  where
    given : (o : Option (List ℕ)) → text_of_field k o ≡ Ok t → o ≡ Some t
    given (Some x) e = cc
    given None e = cc

pub at_field_ok : {A : Type 0} (k : ℕ) (r : Result A Rule) (x : A) → at_field k r ≡ Ok x → r ≡ Ok x
at_field_ok k (Ok y) x h = cc
at_field_ok k (Err e) x h = cc

pub name_at_takes : (fields : List (List ℕ)) (k : ℕ) (n : List ℕ) → name_at fields k ≡ Ok n → (slice_get fields k ≡ Some n) × (is_name n ≡ true)
unfolding name_at name_in
name_at_takes fields k n h =
    let text = bind_ok (text_at fields k) (λ t. at_field k (name_in t)) n h in
    let named = chosen_ok (is_name text.0) n _ _ n (at_field_ok k (name_in text.0) n text.2) in
    let same : text.0 ≡ n = cc in
    (text_at_ok fields k text.0 text.1 ∙ ap Some same, ap is_name (sym same) ∙ named.0)

pub number_at_takes : (fields : List (List ℕ)) (k low high n : ℕ) → high < 2 ^ 64 → number_at fields k low high ≡ Ok n → (slice_get fields k ≡ Some (decimal n)) × (low ≤ n) × (n ≤ high)
unfolding number_at
number_at_takes fields k low high n big h =
    let text = bind_ok (text_at fields k) (λ t. at_field k (number_of low high t)) n h in
    let number = number_takes low high text.0 n big (at_field_ok k (number_of low high text.0) n text.2) in
    (text_at_ok fields k text.0 text.1 ∙ ap Some number.0, number.1, number.2)

pub day_at_takes : (fields : List (List ℕ)) (k n : ℕ) → day_at fields k ≡ Ok n → (slice_get fields k ≡ Some (day_text n)) × (is_day n ≡ true)
unfolding day_at
day_at_takes fields k n h =
    let text = bind_ok (text_at fields k) (λ t. at_field k (day_of t)) n h in
    let day = day_alone text.0 n (at_field_ok k (day_of text.0) n text.2) in
    (text_at_ok fields k text.0 text.1 ∙ ap Some day.0, day.1)

pub end_at_takes : (fields : List (List ℕ)) (k : ℕ) (u : Unit {0}) → end_at fields k ≡ Ok u → length fields ≤ k
unfolding end_at
end_at_takes fields k u h = let e = chosen_ok (nat_le (length fields) k) tt _ _ u h in grind (arith, nat_tests)

-- names that differ byte by byte are two
pub apart : (a b : List ℕ) → pointwise nat_eq a b ≡ name_eq a b
apart a b = texts_ties a b

other_ok : {A E : Type 0} (b : Bool) (e : E) (x y : A) → cond b (Err e) (Ok x) ≡ Ok y → (b ≡ false) × (x ≡ y)
other_ok true e x y h = cc
other_ok false e x y h = (refl, cc)

pub component_at_takes : (fields : List (List ℕ)) (k : ℕ) (parent n : List ℕ) → component_at fields k parent ≡ Ok n → (slice_get fields k ≡ Some n) × (is_name n ≡ true) × (not (name_eq parent n) ≡ true)
unfolding component_at
component_at_takes fields k parent n h =
    let name = bind_ok (name_at fields k) _ n h in
    let other = other_ok (pointwise nat_eq parent name.0) _ name.0 n name.2 in
    let taken = name_at_takes fields k name.0 name.1 in
    let same : name.0 ≡ n = other.1 in
    (taken.0 ∙ ap Some same, ap is_name (sym same) ∙ taken.1, ap not (sym (apart parent n) ∙ ap (pointwise nat_eq parent) (sym same) ∙ other.0))

-- from the place k on, the fields are these
abbrev pub AreGiven : List (List ℕ) → ℕ → List (List ℕ) → Type 0
AreGiven fs k [] = Unit {0}
AreGiven fs k (g ∷ gs) = (slice_get fs k ≡ Some g) × AreGiven fs (suc k) gs

one_less : (f : List ℕ) (fs : List (List ℕ)) (k : ℕ) (gs : List (List ℕ)) → AreGiven (f ∷ fs) (suc k) gs → AreGiven fs k gs
one_less f fs k [] h = tt
one_less f fs k (g ∷ gs) h = (h.0, one_less f fs (suc k) gs h.1)

-- the fields that are given are all
pub fields_are : (fs gs : List (List ℕ)) → length fs ≤ length gs → AreGiven fs zero gs → fs ≡ gs
fields_are [] [] short h = refl
fields_are [] (g ∷ gs) short h = let e = h.0 in cc
fields_are (f ∷ fs) [] short h = absurd (omega arith)
fields_are (f ∷ fs) (g ∷ gs) short h =
    let first : f ≡ g = let e = h.0 in cc in
    λ i. first i ∷ fields_are fs gs (omega arith) (one_less f fs zero gs h.1) i
