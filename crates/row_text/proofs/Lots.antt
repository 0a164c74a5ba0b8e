-- Lots, weeks and calendars: what is read is spelled so, and what is spelled so is read.
use Rattle.std.proofs.Common.{◌≡◌, ℕ, suc, ◌+◌, ◌<◌, ◌≤◌, Bool, true, false, not, ◌&&◌, ◌||◌, cond, nat_eq, nat_le, nat_lt, List, [], ◌∷◌, ◌++◌, length, take, drop, get_or, Option, Some, None, Result, Ok, Err, inl, inr, refl, sym, ap, ◌∙◌, subst, arith, length-append}
use Rattle.std.specs.Prelude.{decimal, codes, ◌==◌}
use Rattle.std.specs.List.{slice_get, list_all, starts_with, position, position_or_len}
use Rattle.std.specs.Cmp.Lexicographic.{pointwise, bytes_decides}
use Rattle.std.specs.Char.{is_ascii_digit}
use Rattle.std.proofs.lemmas.Bool.Decides.{nat_tests}
use Rattle.std.proofs.lemmas.Bool.{and_parts, or_cases, eqb-true}
use Rattle.std.proofs.lemmas.List.{take-append-drop}
use Rattle.std.proofs.lemmas.List.Quantifiers.{position-Some}
use Rattle.std.proofs.Math.Seq.{drop-cons, take-append_seam, drop-append-add}
use Rattle.std.proofs.lemmas.Fmt.{digits_decimal}
use Rattle.plan_schema.specs.declared.fault.Rule.{Rule}
use Rattle.plan_schema.specs.declared.fault.Rule.TheVariants as rule
use Rattle.plan_schema.specs.declared.key.Lot.{Lot}
use Rattle.plan_schema.specs.declared.key.Lot.TheVariants.{Exact, Fixed, Least, Period, Best}
use Rattle.plan_schema.specs.Name.{is_name}
use Rattle.plan_schema.specs.Sound.{is_sound_lot, is_quantity, calendar_is_name}
use Rattle.plan_schema.proofs.DayLaws.{uncons, none_left}
use Rattle.row_text.specs.Number.{number_of, is_number}
use Rattle.row_text.specs.Row.{at_field, text_at, lot_of, lot_at, fixed_of, period_of, least_of, best_of, split_lot, least_and_step, setup_and_hold, week_of, week_at, works, calendar_in, calendar_at}
use Rattle.row_text.specs.Spelling.{lot_text, week_text, mark, calendar_text}
use Rattle.row_text.proofs.Fields.{and_true, le_true, bind_ok, chosen_ok, own, number_takes, number_again, decimal_is_number, text_at_ok, at_field_ok}

-- what is read without a fault
abbrev read : {A : Type 0} → A → Result A Rule
read x = Ok x

-- a choice that came to an answer
pub chosen_from : {A : Type 0} (P : Type 0) (b : Bool) (r s y : A) → (b ≡ true → r ≡ y → P) → (b ≡ false → s ≡ y → P) → cond b r s ≡ y → P
chosen_from P true r s y f g h = f refl h
chosen_from P false r s y f g h = g refl h

-- what begins with a word is the word and the rest
begins : (text word : List ℕ) → starts_with nat_eq text word ≡ true → text ≡ word ++ drop (length word) text
begins text word h =
    let same : word ≡ take (length word) text = (bytes_decides word (take (length word) text)).0 h in
    sym (ap (λ t. t ++ drop (length word) text) same ∙ take-append-drop (length word) text)

abbrev IsLotOf : List ℕ → Lot → Type 0
IsLotOf text lot = (text ≡ lot_text lot) × (is_sound_lot lot ≡ true)

fixed_takes : (t : List ℕ) (lot : Lot) → fixed_of t ≡ Ok lot → IsLotOf (codes "FOQ:" ++ t) lot
unfolding fixed_of lot_text
fixed_takes t lot h =
    let q = bind_ok (number_of 1 1_000_000_000 t) _ lot h in
    let number = number_takes 1 1_000_000_000 t q.0 (omega arith) q.1 in
    let is : Fixed q.0 ≡ lot = let e = q.2 in cc in
    subst (IsLotOf (codes "FOQ:" ++ t)) is (ap (λ x. codes "FOQ:" ++ x) number.0, and_true (le_true 1 q.0 number.1) (le_true q.0 1_000_000_000 number.2))

period_takes : (t : List ℕ) (lot : Lot) → period_of t ≡ Ok lot → IsLotOf (codes "POQ:" ++ t) lot
unfolding period_of lot_text
period_takes t lot h =
    let p = bind_ok (number_of 1 400 t) _ lot h in
    let number = number_takes 1 400 t p.0 (omega arith) p.1 in
    let is : Period p.0 ≡ lot = let e = p.2 in cc in
    subst (IsLotOf (codes "POQ:" ++ t)) is (ap (λ x. codes "POQ:" ++ x) number.0, and_true (le_true 1 p.0 number.1) (le_true p.0 400 number.2))

parts_takes : (first second : List ℕ) (lot : Lot) → least_and_step first second ≡ Ok lot → IsLotOf (codes "MM:" ++ (first ++ 58 ∷ second)) lot
unfolding least_and_step lot_text
parts_takes first second lot h =
    let formed = chosen_ok (is_number first && is_number second) Exact rule.Shape _ lot h in
    let a = bind_ok (number_of 0 1_000_000_000 first) _ lot formed.1 in
    let b = bind_ok (number_of 1 1_000_000_000 second) _ lot a.2 in
    let least = number_takes 0 1_000_000_000 first a.0 (omega arith) a.1 in
    let step = number_takes 1 1_000_000_000 second b.0 (omega arith) b.1 in
    let is : Least a.0 b.0 ≡ lot = let e = b.2 in cc in
    let text : codes "MM:" ++ (first ++ 58 ∷ second) ≡ codes "MM:" ++ (decimal a.0 ++ 58 ∷ decimal b.0) = λ i. codes "MM:" ++ (least.0 i ++ 58 ∷ step.0 i) in
    subst (IsLotOf (codes "MM:" ++ (first ++ 58 ∷ second))) is
    (text, and_true (and_true (le_true a.0 1_000_000_000 least.2) (le_true 1 b.0 step.1)) (le_true b.0 1_000_000_000 step.2))

costs_takes : (first second : List ℕ) (lot : Lot) → setup_and_hold first second ≡ Ok lot → IsLotOf (codes "WW:" ++ (first ++ 58 ∷ second)) lot
unfolding setup_and_hold lot_text
costs_takes first second lot h =
    let formed = chosen_ok (is_number first && is_number second) Exact rule.Shape _ lot h in
    let a = bind_ok (number_of 0 1_000_000_000 first) _ lot formed.1 in
    let b = bind_ok (number_of 0 1_000_000 second) _ lot a.2 in
    let setup = number_takes 0 1_000_000_000 first a.0 (omega arith) a.1 in
    let hold = number_takes 0 1_000_000 second b.0 (omega arith) b.1 in
    let is : Best a.0 b.0 ≡ lot = let e = b.2 in cc in
    let text : codes "WW:" ++ (first ++ 58 ∷ second) ≡ codes "WW:" ++ (decimal a.0 ++ 58 ∷ decimal b.0) = λ i. codes "WW:" ++ (setup.0 i ++ 58 ∷ hold.0 i) in
    subst (IsLotOf (codes "WW:" ++ (first ++ 58 ∷ second))) is (text, and_true (le_true a.0 1_000_000_000 setup.2) (le_true b.0 1_000_000 hold.2))

split_at : (t : List ℕ) (k : ℕ) → k < length t → get_or t k 0 ≡ 58 → take k t ++ 58 ∷ drop (k + 1) t ≡ t
split_at t k h e =
    let next : suc k ≡ k + 1 = omega arith in
    let here : drop k t ≡ 58 ∷ drop (k + 1) t = drop-cons t k 0 h ∙ (λ i. e i ∷ drop (next i) t) in
    ap (λ x. take k t ++ x) (sym here) ∙ take-append-drop k t

-- a lot of two numbers, behind a word
split_takes : (word : List ℕ) (both : List ℕ → List ℕ → Result Lot Rule) → ((first second : List ℕ) (lot : Lot) → both first second ≡ Ok lot → IsLotOf (word ++ (first ++ 58 ∷ second)) lot)
    → (t : List ℕ) (lot : Lot) → split_lot both (position (λ b. b == 58) t) t ≡ Ok lot → IsLotOf (word ++ t) lot
split_takes word both takes t lot h = found (position (λ b. b == 58) t) refl h
  where
    found : (o : Option ℕ) → position (λ b. b == 58) t ≡ o → split_lot both o t ≡ Ok lot → IsLotOf (word ++ t) lot
    found None e g = cc
    found (Some k) e g =
        let at = position-Some (λ b. b == 58) t k 0 e in
        let colon : get_or t k 0 ≡ 58 = eqb-true (get_or t k 0) 58 at.1 in
        subst (λ x. IsLotOf (word ++ x) lot) (split_at t k at.0 colon) (takes (take k t) (drop (k + 1) t) lot g)

least_takes : (t : List ℕ) (lot : Lot) → least_of t ≡ Ok lot → IsLotOf (codes "MM:" ++ t) lot
unfolding least_of
least_takes t lot h = split_takes (codes "MM:") least_and_step parts_takes t lot h

best_takes : (t : List ℕ) (lot : Lot) → best_of t ≡ Ok lot → IsLotOf (codes "WW:" ++ t) lot
unfolding best_of
best_takes t lot h = split_takes (codes "WW:") setup_and_hold costs_takes t lot h

exact_takes : (text : List ℕ) (lot : Lot) → pointwise nat_eq text (codes "L4L") ≡ true → read Exact ≡ read lot → IsLotOf text lot
unfolding lot_text
exact_takes text lot is h =
    let same : Exact ≡ lot = cc in
    subst (IsLotOf text) same ((bytes_decides text (codes "L4L")).0 is, refl)

pub lot_takes : (text : List ℕ) (lot : Lot) → lot_of text ≡ Ok lot → IsLotOf text lot
unfolding lot_of
lot_takes text lot h =
    chosen_from (IsLotOf text lot) _ _ _ _ (λ is e. exact_takes text lot is e) (λ _.
    chosen_from (IsLotOf text lot) _ _ _ _ (λ is e. subst (λ x. IsLotOf x lot) (sym (begins text (codes "FOQ:") is)) (fixed_takes (drop 4 text) lot e)) (λ _.
    chosen_from (IsLotOf text lot) _ _ _ _ (λ is e. subst (λ x. IsLotOf x lot) (sym (begins text (codes "MM:") is)) (least_takes (drop 3 text) lot e)) (λ _.
    chosen_from (IsLotOf text lot) _ _ _ _ (λ is e. subst (λ x. IsLotOf x lot) (sym (begins text (codes "POQ:") is)) (period_takes (drop 4 text) lot e)) (λ _.
    chosen_from (IsLotOf text lot) _ _ _ _ (λ is e. subst (λ x. IsLotOf x lot) (sym (begins text (codes "WW:") is)) (best_takes (drop 3 text) lot e)) (λ _ e. cc))))) h

-- digits have no colon
colon_behind : (xs ys : List ℕ) → list_all is_ascii_digit xs ≡ true → position_or_len (λ b. b == 58) (xs ++ 58 ∷ ys) ≡ length xs
colon_behind [] ys h = refl
colon_behind (x ∷ xs) ys h =
    let p = and_parts (is_ascii_digit x) (list_all is_ascii_digit xs) h in
    let other : (x == 58) ≡ false = grind (arith, nat_tests) in
    let rest = colon_behind xs ys p.1 in
    ap (λ t. cond (not t) (1 + position_or_len (λ b. b == 58) (xs ++ 58 ∷ ys)) 0) other ∙ (let e : 1 + position_or_len (λ b. b == 58) (xs ++ 58 ∷ ys) ≡ suc (length xs) = omega (arith, rest) in e)

colon_found : (xs ys : List ℕ) → list_all is_ascii_digit xs ≡ true → position (λ b. b == 58) (xs ++ 58 ∷ ys) ≡ Some (length xs)
colon_found xs ys h =
    let at = colon_behind xs ys h in
    let within : nat_lt (length xs) (length (xs ++ 58 ∷ ys)) ≡ true = let n = length-append xs (58 ∷ ys) in grind (arith, nat_tests) in
    ap (λ k. cond (nat_lt k (length (xs ++ 58 ∷ ys))) (Some k) None) at ∙ ap (λ t. cond t (Some (length xs)) None) within

-- two numbers behind a colon are cut there
split_again : (both : List ℕ → List ℕ → Result Lot Rule) (first second : List ℕ) → list_all is_ascii_digit first ≡ true
    → split_lot both (position (λ b. b == 58) (first ++ 58 ∷ second)) (first ++ 58 ∷ second) ≡ both first second
split_again both first second digits =
    ap (λ o. split_lot both o (first ++ 58 ∷ second)) (colon_found first second digits)
    ∙ (λ i. both (take-append_seam first (58 ∷ second) i) (drop-append-add first (58 ∷ second) 1 i))

least_again : (least step : ℕ) → least ≤ 1_000_000_000 → 1 ≤ step → step ≤ 1_000_000_000 → least_of (decimal least ++ 58 ∷ decimal step) ≡ Ok (Least least step)
unfolding least_of least_and_step
least_again least step a b c =
    let form : is_number (decimal least) ≡ true = decimal_is_number least (omega arith) in
    let form2 : is_number (decimal step) ≡ true = decimal_is_number step (omega arith) in
    let digits : list_all is_ascii_digit (decimal least) ≡ true = digits_decimal own least (omega arith) in
    let made : least_and_step (decimal least) (decimal step) ≡ Ok (Least least step) = rw (form, form2, number_again 0 1_000_000_000 least (omega arith) (omega arith) a, number_again 1 1_000_000_000 step (omega arith) b c) in
    split_again least_and_step (decimal least) (decimal step) digits ∙ made

best_again : (setup hold : ℕ) → setup ≤ 1_000_000_000 → hold ≤ 1_000_000 → best_of (decimal setup ++ 58 ∷ decimal hold) ≡ Ok (Best setup hold)
unfolding best_of setup_and_hold
best_again setup hold a b =
    let form : is_number (decimal setup) ≡ true = decimal_is_number setup (omega arith) in
    let form2 : is_number (decimal hold) ≡ true = decimal_is_number hold (omega arith) in
    let digits : list_all is_ascii_digit (decimal setup) ≡ true = digits_decimal own setup (omega arith) in
    let made : setup_and_hold (decimal setup) (decimal hold) ≡ Ok (Best setup hold) = rw (form, form2, number_again 0 1_000_000_000 setup (omega arith) (omega arith) a, number_again 0 1_000_000 hold (omega arith) (omega arith) b) in
    split_again setup_and_hold (decimal setup) (decimal hold) digits ∙ made

pub lot_again : (lot : Lot) → is_sound_lot lot ≡ true → lot_of (lot_text lot) ≡ Ok lot
unfolding lot_of lot_text fixed_of period_of
lot_again Exact h = refl
lot_again (Fixed q) h =
    let least : 1 ≤ q = grind (arith, nat_tests) in
    let most : q ≤ 1_000_000_000 = grind (arith, nat_tests) in
    rw (number_again 1 1_000_000_000 q (omega arith) least most)
lot_again (Least least step) h =
    let p = and_parts (is_quantity least && nat_le 1 step) (is_quantity step) h in
    let a : least ≤ 1_000_000_000 = grind (arith, nat_tests) in
    let b : 1 ≤ step = grind (arith, nat_tests) in
    let c : step ≤ 1_000_000_000 = grind (arith, nat_tests) in
    least_again least step a b c
lot_again (Period p) h =
    let least : 1 ≤ p = grind (arith, nat_tests) in
    let most : p ≤ 400 = grind (arith, nat_tests) in
    rw (number_again 1 400 p (omega arith) least most)
lot_again (Best setup hold) h =
    let p = and_parts (is_quantity setup) (nat_le hold 1_000_000) h in
    let a : setup ≤ 1_000_000_000 = grind (arith, nat_tests) in
    let b : hold ≤ 1_000_000 = grind (arith, nat_tests) in
    best_again setup hold a b

-- weeks -------------------------------------------------------------------------------------------------------------------

mark_of_byte : (b : ℕ) → ((b == 48) || (b == 49)) ≡ true → b ≡ mark (b == 49)
mark_of_byte b h = elim (or_cases (b == 48) (b == 49) h) [
  | inl zero_ ↦ (let is : b ≡ 48 = eqb-true b 48 zero_ in subst (λ x. x ≡ mark (x == 49)) (sym is) refl)
  | inr one ↦ (let is : b ≡ 49 = eqb-true b 49 one in subst (λ x. x ≡ mark (x == 49)) (sym is) refl)
]

seven_marks : (a b c d e f g : ℕ) → list_all (λ x. (x == 48) || (x == 49)) (a ∷ b ∷ c ∷ d ∷ e ∷ f ∷ g ∷ []) ≡ true
    → a ∷ b ∷ c ∷ d ∷ e ∷ f ∷ g ∷ [] ≡ mark (a == 49) ∷ mark (b == 49) ∷ mark (c == 49) ∷ mark (d == 49) ∷ mark (e == 49) ∷ mark (f == 49) ∷ mark (g == 49) ∷ []
seven_marks a b c d e f g h =
    let is = λ (x : ℕ). (x == 48) || (x == 49) in
    let p0 = and_parts (is a) (list_all is (b ∷ c ∷ d ∷ e ∷ f ∷ g ∷ [])) h in
    let p1 = and_parts (is b) (list_all is (c ∷ d ∷ e ∷ f ∷ g ∷ [])) p0.1 in
    let p2 = and_parts (is c) (list_all is (d ∷ e ∷ f ∷ g ∷ [])) p1.1 in
    let p3 = and_parts (is d) (list_all is (e ∷ f ∷ g ∷ [])) p2.1 in
    let p4 = and_parts (is e) (list_all is (f ∷ g ∷ [])) p3.1 in
    let p5 = and_parts (is f) (list_all is (g ∷ [])) p4.1 in
    let p6 = and_parts (is g) true p5.1 in
    λ i. mark_of_byte a p0.0 i ∷ mark_of_byte b p1.0 i ∷ mark_of_byte c p2.0 i ∷ mark_of_byte d p3.0 i ∷ mark_of_byte e p4.0 i ∷ mark_of_byte f p5.0 i ∷ mark_of_byte g p6.0 i ∷ []

abbrev week_in : List ℕ → List Bool
week_in text = works text 0 ∷ works text 1 ∷ works text 2 ∷ works text 3 ∷ works text 4 ∷ works text 5 ∷ works text 6 ∷ []

week_named : (text : List ℕ) → length text ≡ 7 → list_all (λ x. (x == 48) || (x == 49)) text ≡ true → text ≡ week_text (week_in text)
unfolding week_text
week_named text len marks =
    let u0 = uncons text 6 len in
    let u1 = uncons u0.1 5 u0.3 in
    let u2 = uncons u1.1 4 u1.3 in
    let u3 = uncons u2.1 3 u2.3 in
    let u4 = uncons u3.1 2 u3.3 in
    let u5 = uncons u4.1 1 u4.3 in
    let u6 = uncons u5.1 0 u5.3 in
    let is : text ≡ u0.0 ∷ u1.0 ∷ u2.0 ∷ u3.0 ∷ u4.0 ∷ u5.0 ∷ u6.0 ∷ [] =
    u0.2 ∙ ap (λ t. u0.0 ∷ t) (u1.2 ∙ ap (λ t. u1.0 ∷ t) (u2.2 ∙ ap (λ t. u2.0 ∷ t) (u3.2 ∙ ap (λ t. u3.0 ∷ t) (u4.2 ∙ ap (λ t. u4.0 ∷ t) (u5.2
    ∙ ap (λ t. u5.0 ∷ t) (u6.2 ∙ ap (λ t. u6.0 ∷ t) (none_left u6.1 u6.3))))))) in
    let P : List ℕ → Type 0 = λ t. list_all (λ x. (x == 48) || (x == 49)) t ≡ true → t ≡ mark (works t 0) ∷ mark (works t 1) ∷ mark (works t 2) ∷ mark (works t 3) ∷ mark (works t 4) ∷ mark (works t 5) ∷ mark (works t 6) ∷ [] in
    subst P (sym is) (seven_marks u0.0 u1.0 u2.0 u3.0 u4.0 u5.0 u6.0) marks

pub week_takes : (text : List ℕ) (week : List Bool) → week_of text ≡ Ok week → (text ≡ week_text week) × ((length week == 7) ≡ true)
unfolding week_of
week_takes text week h =
    let formed = chosen_ok ((length text == 7) && list_all (λ b. (b == 48) || (b == 49)) text) week rule.Shape _ week h in
    let p = and_parts (length text == 7) (list_all (λ b. (b == 48) || (b == 49)) text) formed.0 in
    let is : week_in text ≡ week = let e = formed.1 in cc in
    (week_named text (eqb-true (length text) 7 p.0) p.1 ∙ ap week_text is, ap (λ w. length w == 7) (sym is))

mark_works : (a : Bool) → (mark a == 49) ≡ a
mark_works true = refl
mark_works false = refl

mark_is_mark : (a : Bool) → ((mark a == 48) || (mark a == 49)) ≡ true
mark_is_mark true = refl
mark_is_mark false = refl

uncons_marks : (xs : List Bool) (n : ℕ) → length xs ≡ suc n → (x : Bool) × (rest : List Bool) × (xs ≡ x ∷ rest) × (length rest ≡ n)
uncons_marks [] n h = absurd (omega arith)
uncons_marks (x ∷ xs) n h = (x, xs, refl, omega arith)

none_marked : (xs : List Bool) → length xs ≡ 0 → xs ≡ []
none_marked [] h = refl
none_marked (x ∷ xs) h = absurd (omega arith)

week_of_seven : (a b c d e f g : Bool) → week_of (week_text (a ∷ b ∷ c ∷ d ∷ e ∷ f ∷ g ∷ [])) ≡ Ok (a ∷ b ∷ c ∷ d ∷ e ∷ f ∷ g ∷ [])
unfolding week_of week_text
week_of_seven a b c d e f g =
    let all : list_all (λ x. (x == 48) || (x == 49)) (mark a ∷ mark b ∷ mark c ∷ mark d ∷ mark e ∷ mark f ∷ mark g ∷ []) ≡ true =
    and_true (mark_is_mark a) (and_true (mark_is_mark b) (and_true (mark_is_mark c) (and_true (mark_is_mark d) (and_true (mark_is_mark e) (and_true (mark_is_mark f) (and_true (mark_is_mark g) refl)))))) in
    ap (λ t. cond t (Ok ((mark a == 49) ∷ (mark b == 49) ∷ (mark c == 49) ∷ (mark d == 49) ∷ (mark e == 49) ∷ (mark f == 49) ∷ (mark g == 49) ∷ [])) (Err rule.Shape)) all
    ∙ (λ i. Ok (mark_works a i ∷ mark_works b i ∷ mark_works c i ∷ mark_works d i ∷ mark_works e i ∷ mark_works f i ∷ mark_works g i ∷ []))

pub week_again : (week : List Bool) → (length week == 7) ≡ true → week_of (week_text week) ≡ Ok week
week_again week h =
    let u0 = uncons_marks week 6 (eqb-true (length week) 7 h) in
    let u1 = uncons_marks u0.1 5 u0.3 in
    let u2 = uncons_marks u1.1 4 u1.3 in
    let u3 = uncons_marks u2.1 3 u2.3 in
    let u4 = uncons_marks u3.1 2 u3.3 in
    let u5 = uncons_marks u4.1 1 u4.3 in
    let u6 = uncons_marks u5.1 0 u5.3 in
    let is : week ≡ u0.0 ∷ u1.0 ∷ u2.0 ∷ u3.0 ∷ u4.0 ∷ u5.0 ∷ u6.0 ∷ [] =
    u0.2 ∙ ap (λ t. u0.0 ∷ t) (u1.2 ∙ ap (λ t. u1.0 ∷ t) (u2.2 ∙ ap (λ t. u2.0 ∷ t) (u3.2 ∙ ap (λ t. u3.0 ∷ t) (u4.2 ∙ ap (λ t. u4.0 ∷ t) (u5.2
    ∙ ap (λ t. u5.0 ∷ t) (u6.2 ∙ ap (λ t. u6.0 ∷ t) (none_marked u6.1 u6.3))))))) in
    let P : List Bool → Type 0 = λ w. week_of (week_text w) ≡ Ok w in
    subst P (sym is) (week_of_seven u0.0 u1.0 u2.0 u3.0 u4.0 u5.0 u6.0)

-- calendars ---------------------------------------------------------------------------------------------------------------

abbrev IsCalendarOf : List ℕ → Option (List ℕ) → Type 0
IsCalendarOf text calendar = (text ≡ calendar_text calendar) × (calendar_is_name calendar ≡ true)

none_takes : (text : List ℕ) (calendar : Option (List ℕ)) → pointwise nat_eq text (codes "-") ≡ true → read None ≡ read calendar → IsCalendarOf text calendar
unfolding calendar_text
none_takes text calendar is h =
    let same : None ≡ calendar = cc in
    subst (IsCalendarOf text) same ((bytes_decides text (codes "-")).0 is, refl)

some_takes : (text : List ℕ) (calendar : Option (List ℕ)) → is_name text ≡ true → read (Some text) ≡ read calendar → IsCalendarOf text calendar
unfolding calendar_text
some_takes text calendar is h =
    let same : Some text ≡ calendar = cc in
    subst (IsCalendarOf text) same (refl, is)

pub calendar_takes : (text : List ℕ) (calendar : Option (List ℕ)) → calendar_in text ≡ Ok calendar → IsCalendarOf text calendar
unfolding calendar_in
calendar_takes text calendar h =
    chosen_from (IsCalendarOf text calendar) _ _ _ _ (λ is e. none_takes text calendar is e) (λ _.
    chosen_from (IsCalendarOf text calendar) _ _ _ _ (λ is e. some_takes text calendar is e) (λ _ e. cc)) h

dash_is_no_name : is_name (codes "-") ≡ false
unfolding is_name
dash_is_no_name = refl

no_dash : (text : List ℕ) → is_name text ≡ true → pointwise nat_eq text (codes "-") ≡ false
no_dash text h = decided (pointwise nat_eq text (codes "-")) refl
  where
    decided : (t : Bool) → pointwise nat_eq text (codes "-") ≡ t → t ≡ false
    decided false e = refl
    decided true e =
        let same : text ≡ codes "-" = (bytes_decides text (codes "-")).0 e in
        let no : true ≡ false = sym h ∙ ap is_name same ∙ dash_is_no_name in
        absurd (let never : ⊥ = cc in never)

pub calendar_again : (calendar : Option (List ℕ)) → calendar_is_name calendar ≡ true → calendar_in (calendar_text calendar) ≡ Ok calendar
unfolding calendar_in calendar_text
calendar_again None h = refl
calendar_again (Some name) h = rw (no_dash name h, h)

-- as fields ---------------------------------------------------------------------------------------------------------------

pub lot_at_takes : (fields : List (List ℕ)) (k : ℕ) (lot : Lot) → lot_at fields k ≡ Ok lot → (slice_get fields k ≡ Some (lot_text lot)) × (is_sound_lot lot ≡ true)
unfolding lot_at
lot_at_takes fields k lot h =
    let text = bind_ok (text_at fields k) (λ t. at_field k (lot_of t)) lot h in
    let is = lot_takes text.0 lot (at_field_ok k (lot_of text.0) lot text.2) in
    (text_at_ok fields k text.0 text.1 ∙ ap Some is.0, is.1)

pub week_at_takes : (fields : List (List ℕ)) (k : ℕ) (week : List Bool) → week_at fields k ≡ Ok week → (slice_get fields k ≡ Some (week_text week)) × ((length week == 7) ≡ true)
unfolding week_at
week_at_takes fields k week h =
    let text = bind_ok (text_at fields k) (λ t. at_field k (week_of t)) week h in
    let is = week_takes text.0 week (at_field_ok k (week_of text.0) week text.2) in
    (text_at_ok fields k text.0 text.1 ∙ ap Some is.0, is.1)

pub calendar_at_takes : (fields : List (List ℕ)) (k : ℕ) (calendar : Option (List ℕ)) → calendar_at fields k ≡ Ok calendar → (slice_get fields k ≡ Some (calendar_text calendar)) × (calendar_is_name calendar ≡ true)
unfolding calendar_at
calendar_at_takes fields k calendar h =
    let text = bind_ok (text_at fields k) (λ t. at_field k (calendar_in t)) calendar h in
    let is = calendar_takes text.0 calendar (at_field_ok k (calendar_in text.0) calendar text.2) in
    (text_at_ok fields k text.0 text.1 ∙ ap Some is.0, is.1)
