-- The text of a day is read as that day, and no other text is.
use Rattle.std.proofs.Common.{◌≡◌, ℕ, suc, ◌+◌, ◌-◌, ◌*◌, ◌/◌, ◌%◌, ◌<◌, ◌≤◌, Bool, true, false, ◌&&◌, cond, nat_le, ap, ◌∙◌, sym, subst, refl, arith, pos, ◌-ℤ◌, unsigned_abs, Result, Ok, Err, List, [], ◌∷◌, length}
use Rattle.std.proofs.lemmas.Bool.Decides.{nat_tests}
use Rattle.std.specs.Char.{is_ascii_digit}
use Rattle.std.specs.Prelude.{◌==◌, slice_index}
use Rattle.std.proofs.lemmas.Bool.{and_parts, eqb-true}
use Rattle.std.specs.Int.{IsInRange}
use Rattle.jiff_core.specs.Calendar.{days_in_month, days_from_civil, day_count}
use Rattle.jiff_core.specs.declared.civil.date.Date.{Date}
use Rattle.jiff_core.proofs.CalendarLemmas.{days_from_civil-day_count}
use Rattle.jiff_core.proofs.SignedLemmas.{signed_arith}
use Rattle.plan_schema.specs.declared.fault.Rule.{Rule}
use Rattle.plan_schema.specs.declared.fault.Rule.TheVariants as rules_of
use Rattle.plan_schema.specs.Day.{is_day, Civil, HasParts, date_of, date_text, day_text, day_of, day_in, has_date_form, has_digits_at, digits_at, is_calendar_day, day_number}
use Rattle.plan_schema.proofs.Days.{day_count_range}
use Rattle.plan_schema.proofs.Dates.{on_day, IsOnDay, before_2100, parts_of_day}

digit_form : (x : ℕ) → x < 10 → is_ascii_digit (48 + x) ≡ true
digit_form x h = grind (arith, nat_tests)

form : (c : Civil) → c.year < 10000 → c.month < 100 → c.day < 100 → has_date_form (date_text c) ≡ true
form c y m d =
    let y1 = digit_form (c.year / 1000) (omega arith) in
    let y2 = digit_form (c.year / 100 % 10) (omega arith) in
    let y3 = digit_form (c.year / 10 % 10) (omega arith) in
    let y4 = digit_form (c.year % 10) (omega arith) in
    let m1 = digit_form (c.month / 10) (omega arith) in
    let m2 = digit_form (c.month % 10) (omega arith) in
    let d1 = digit_form (c.day / 10) (omega arith) in
    let d2 = digit_form (c.day % 10) (omega arith) in
    λ i. (y1 i && y2 i) && (y3 i && y4 i) && true && (m1 i && m2 i) && true && (d1 i && d2 i)

year_read : (c : Civil) → c.year < 10000 → 100 * digits_at (date_text c) 0 + digits_at (date_text c) 2 ≡ c.year
year_read c h = omega arith

month_read : (c : Civil) → c.month < 100 → digits_at (date_text c) 5 ≡ c.month
month_read c h = omega arith

day_read : (c : Civil) → c.day < 100 → digits_at (date_text c) 8 ≡ c.day
day_read c h = omega arith

month_ends : (y m : ℕ) → days_in_month (pos y) m ≤ 31
month_ends y m = grind (arith, nat_tests)

calendar : (n : ℕ) (c : Civil) → c.year ≤ 2099 → IsOnDay n c → is_calendar_day c.year c.month c.day ≡ true
calendar n c high on = let a = on.year in let b = on.month in let e = on.day in grind (arith, nat_tests)

pub day_again : (n : ℕ) → n < 36525 → day_of (day_text n) ≡ Ok n
unfolding day_of day_text day_in
day_again n small =
    let c = date_of n in
    let on = on_day n in
    let high : c.year ≤ 2099 = before_2100 n c small on in
    let long = month_ends c.year c.month in
    let exact : days_from_civil (pos c.year) c.month c.day -ℤ pos 10957 ≡ pos n = omega (arith, signed_arith, on.number) in
    let number : day_number c.year c.month c.day ≡ n = ap unsigned_abs exact in
    let formed = form c (omega (arith, high)) (omega (arith, on.month)) (omega (arith, on.day, long)) in
    let read : day_in (100 * digits_at (date_text c) 0 + digits_at (date_text c) 2) (digits_at (date_text c) 5) (digits_at (date_text c) 8) ≡ day_in c.year c.month c.day =
    λ i. day_in (year_read c (omega (arith, high)) i) (month_read c (omega (arith, on.month)) i) (day_read c (omega (arith, on.day, long)) i) in
    let made : day_in c.year c.month c.day ≡ Ok n = rw (calendar n c high on, number) in
    ap (λ t. cond t (day_in (100 * digits_at (date_text c) 0 + digits_at (date_text c) 2) (digits_at (date_text c) 5) (digits_at (date_text c) 8)) (Err rules_of.Shape)) formed ∙ read ∙ made

-- the other way -----------------------------------------------------------------------------------------------------------

six : (a b c d e f : Bool) → (a && b && c && d && e && f) ≡ true → (a ≡ true) × (b ≡ true) × (c ≡ true) × (d ≡ true) × (e ≡ true) × (f ≡ true)
six a b c d e f h =
    let p5 = and_parts (a && b && c && d && e) f h in
    let p4 = and_parts (a && b && c && d) e p5.0 in
    let p3 = and_parts (a && b && c) d p4.0 in
    let p2 = and_parts (a && b) c p3.0 in
    let p1 = and_parts a b p2.0 in
    (p1.0, p1.1, p2.1, p3.1, p4.1, p5.1)

-- the parts of the form of a date: its length, its four pairs of digits and its two dashes
seven : (a b c d e f g : Bool) → (a && b && c && d && e && f && g) ≡ true → (a ≡ true) × (b ≡ true) × (c ≡ true) × (d ≡ true) × (e ≡ true) × (f ≡ true) × (g ≡ true)
seven a b c d e f g h =
    let p6 = and_parts (a && b && c && d && e && f) g h in
    let p = six a b c d e f p6.0 in
    (p.0, p.1, p.2, p.3, p.4, p.5, p6.1)

-- what is known of a calendar day's parts
record IsDate (y m d : ℕ) : Type 0 where
  pub low : 2000 ≤ y
  pub high : y ≤ 2099
  pub month : IsInRange 1 12 m
  pub day : IsInRange 1 (days_in_month (pos y) m) d

is_date : (y m d : ℕ) → is_calendar_day y m d ≡ true → IsDate y m d
is_date y m d h =
    let each = six (nat_le 2000 y) (nat_le y 2099) (nat_le 1 m) (nat_le m 12) (nat_le 1 d) (nat_le d (days_in_month (pos y) m)) h in
    record {
      low = (let t : 2000 ≤ y = grind (arith, nat_tests) in t);
      high = (let t : y ≤ 2099 = grind (arith, nat_tests) in t);
      month = ((let t : 1 ≤ m = grind (arith, nat_tests) in t), (let t : m ≤ 12 = grind (arith, nat_tests) in t));
      day = ((let t : 1 ≤ d = grind (arith, nat_tests) in t), (let t : d ≤ days_in_month (pos y) m = grind (arith, nat_tests) in t));
    }

-- the number of a calendar day is a day's, and its date is that day
record IsNumbered (y m d : ℕ) : Type 0 where
  pub small : day_number y m d < 36525
  pub year : (date_of (day_number y m d)).year ≡ y
  pub month : (date_of (day_number y m d)).month ≡ m
  pub day : (date_of (day_number y m d)).day ≡ d

numbered : (y m d : ℕ) → is_calendar_day y m d ≡ true → IsNumbered y m d
numbered y m d h =
    let is = is_date y m d h in
    let long : days_in_month (pos y) m ≤ 31 = month_ends y m in
    let range = day_count_range y m d is.low is.high is.month.0 is.month.1 is.day.0 (omega (arith, is.day, long)) in
    let exact : days_from_civil (pos y) m d -ℤ pos 10957 ≡ pos (day_count (pos y) m d - 4_382_910) = omega (arith, signed_arith, days_from_civil-day_count (pos y) m d, range) in
    let count : day_number y m d ≡ day_count (pos y) m d - 4_382_910 = ap unsigned_abs exact in
    let small : day_number y m d < 36525 = omega (arith, range, count) in
    let epoch : days_from_civil (pos y) m d ≡ pos (day_number y m d + 10957) = omega (arith, signed_arith, exact, count) in
    let date : Date = record { year = pos y; month = m; day = d; year_in = (omega (arith, signed_arith, is.low), omega (arith, signed_arith, is.high)); month_in = is.month; day_in = is.day } in
    let parts : HasParts date (date_of (day_number y m d)) = parts_of_day date (day_number y m d) small epoch in
    record { small = small; year = sym (ap unsigned_abs parts.year); month = sym parts.month; day = sym parts.day }

pub uncons : (xs : List ℕ) (n : ℕ) → length xs ≡ suc n → (x : ℕ) × (rest : List ℕ) × (xs ≡ x ∷ rest) × (length rest ≡ n)
uncons [] n h = absurd (omega arith)
uncons (x ∷ xs) n h = (x, xs, refl, omega arith)

pub none_left : (xs : List ℕ) → length xs ≡ 0 → xs ≡ []
none_left [] h = refl
none_left (x ∷ xs) h = absurd (omega arith)

digit_range : (b : ℕ) → is_ascii_digit b ≡ true → (48 ≤ b) × (b ≤ 57)
digit_range b h = (grind (arith, nat_tests), grind (arith, nat_tests))

two_range : (a b : ℕ) → (is_ascii_digit a && is_ascii_digit b) ≡ true → (48 ≤ a) × (a ≤ 57) × (48 ≤ b) × (b ≤ 57)
two_range a b h =
    let p = and_parts _ _ h in
    let x = digit_range a p.0 in
    let y = digit_range b p.1 in
    (x.0, x.1, y.0, y.1)

ten_bytes : (a b c d e f g h i j : ℕ) → has_date_form (a ∷ b ∷ c ∷ d ∷ e ∷ f ∷ g ∷ h ∷ i ∷ j ∷ []) ≡ true
    → a ∷ b ∷ c ∷ d ∷ e ∷ f ∷ g ∷ h ∷ i ∷ j ∷ [] ≡ date_text (record { year = 100 * (10 * (a - 48) + (b - 48)) + (10 * (c - 48) + (d - 48)); month = 10 * (f - 48) + (g - 48); day = 10 * (i - 48) + (j - 48) })
ten_bytes a b c d e f g h i j form =
    let p = seven true (is_ascii_digit a && is_ascii_digit b) (is_ascii_digit c && is_ascii_digit d) (e == 45) (is_ascii_digit f && is_ascii_digit g) (h == 45) (is_ascii_digit i && is_ascii_digit j) form in
    let century = two_range a b p.1 in
    let year = two_range c d p.2 in
    let month = two_range f g p.4 in
    let day = two_range i j p.6 in
    let dash : e ≡ 45 = eqb-true e 45 p.3 in
    let dash2 : h ≡ 45 = eqb-true h 45 p.5 in
    let y : ℕ = 100 * (10 * (a - 48) + (b - 48)) + (10 * (c - 48) + (d - 48)) in
    let e0 : a ≡ 48 + y / 1000 = omega (arith, century, year) in
    let e1 : b ≡ 48 + y / 100 % 10 = omega (arith, century, year) in
    let e2 : c ≡ 48 + y / 10 % 10 = omega (arith, century, year) in
    let e3 : d ≡ 48 + y % 10 = omega (arith, century, year) in
    let e5 : f ≡ 48 + (10 * (f - 48) + (g - 48)) / 10 = omega (arith, month) in
    let e6 : g ≡ 48 + (10 * (f - 48) + (g - 48)) % 10 = omega (arith, month) in
    let e8 : i ≡ 48 + (10 * (i - 48) + (j - 48)) / 10 = omega (arith, day) in
    let e9 : j ≡ 48 + (10 * (i - 48) + (j - 48)) % 10 = omega (arith, day) in
    λ k. e0 k ∷ e1 k ∷ e2 k ∷ e3 k ∷ dash k ∷ e5 k ∷ e6 k ∷ dash2 k ∷ e8 k ∷ e9 k ∷ []

-- a text in the form of a date is the text of the date that it names
text_named : (text : List ℕ) → has_date_form text ≡ true → text ≡ date_text (record { year = 100 * digits_at text 0 + digits_at text 2; month = digits_at text 5; day = digits_at text 8 })
text_named text form =
    let p = seven (length text == 10) (has_digits_at text 0) (has_digits_at text 2) (slice_index text 4 == 45) (has_digits_at text 5) (slice_index text 7 == 45) (has_digits_at text 8) form in
    let len : length text ≡ 10 = eqb-true (length text) 10 p.0 in
    let u0 = uncons text 9 len in
    let u1 = uncons u0.1 8 u0.3 in
    let u2 = uncons u1.1 7 u1.3 in
    let u3 = uncons u2.1 6 u2.3 in
    let u4 = uncons u3.1 5 u3.3 in
    let u5 = uncons u4.1 4 u4.3 in
    let u6 = uncons u5.1 3 u5.3 in
    let u7 = uncons u6.1 2 u6.3 in
    let u8 = uncons u7.1 1 u7.3 in
    let u9 = uncons u8.1 0 u8.3 in
    let is : text ≡ u0.0 ∷ u1.0 ∷ u2.0 ∷ u3.0 ∷ u4.0 ∷ u5.0 ∷ u6.0 ∷ u7.0 ∷ u8.0 ∷ u9.0 ∷ [] =
    u0.2 ∙ ap (λ t. u0.0 ∷ t) (u1.2 ∙ ap (λ t. u1.0 ∷ t) (u2.2 ∙ ap (λ t. u2.0 ∷ t) (u3.2 ∙ ap (λ t. u3.0 ∷ t) (u4.2 ∙ ap (λ t. u4.0 ∷ t) (u5.2
    ∙ ap (λ t. u5.0 ∷ t) (u6.2 ∙ ap (λ t. u6.0 ∷ t) (u7.2 ∙ ap (λ t. u7.0 ∷ t) (u8.2 ∙ ap (λ t. u8.0 ∷ t) (u9.2 ∙ ap (λ t. u9.0 ∷ t) (none_left u9.1 u9.3)))))))))) in
    let P : List ℕ → Type 0 = λ t. has_date_form t ≡ true → t ≡ date_text (record { year = 100 * digits_at t 0 + digits_at t 2; month = digits_at t 5; day = digits_at t 8 }) in
    subst P (sym is) (ten_bytes u0.0 u1.0 u2.0 u3.0 u4.0 u5.0 u6.0 u7.0 u8.0 u9.0) form

chosen : {A : Type 0} (b : Bool) (r : Result A Rule) (e : Rule) (y : A) → cond b r (Err e) ≡ Ok y → (b ≡ true) × (r ≡ Ok y)
chosen true r e y h = (refl, h)
chosen false r e y h = cc

small_is_day : (n : ℕ) → n < 36525 → is_day n ≡ true
small_is_day n h = grind (arith, nat_tests)

pub day_alone : (text : List ℕ) (n : ℕ) → day_of text ≡ Ok n → (text ≡ day_text n) × (is_day n ≡ true)
unfolding day_of day_in day_text
day_alone text n h =
    let y : ℕ = 100 * digits_at text 0 + digits_at text 2 in
    let m : ℕ = digits_at text 5 in
    let d : ℕ = digits_at text 8 in
    let formed = chosen (has_date_form text) _ rules_of.Shape n h in
    let made = chosen (is_calendar_day y m d) (Ok (day_number y m d)) rules_of.Date n formed.1 in
    let same : day_number y m d ≡ n = cc in
    let parts = numbered y m d made.0 in
    let named : text ≡ date_text (record { year = y; month = m; day = d }) = text_named text formed.0 in
    let date : record { year = y; month = m; day = d } ≡ date_of (day_number y m d) = λ i. record { year = sym parts.year i; month = sym parts.month i; day = sym parts.day i } in
    (named ∙ ap date_text date ∙ ap (λ k. date_text (date_of k)) same, ap is_day (sym same) ∙ small_is_day (day_number y m d) parts.small)

pub day_read_again : (n : ℕ) → is_day n ≡ true → day_of (day_text n) ≡ Ok n
day_read_again n h = let small : n < 36525 = grind (arith, nat_tests) in day_again n small
