-- The words of sound changes, rows and replies are short, and each of their bytes comes after the space.
use Rattle.std.proofs.Common.{◌≡◌, ℕ, suc, ◌+◌, ◌*◌, ◌^◌, ◌<◌, ◌≤◌, Bool, true, false, ◌&&◌, nat_le, nat_lt, List, [], ◌∷◌, ◌++◌, length, Option, Some, None, refl, arith, length-append}
use Rattle.std.specs.Prelude.{codes, decimal, slice_index_or}
use Rattle.std.specs.List.{list_all}
use Rattle.std.proofs.lemmas.Bool.{and_parts}
use Rattle.std.proofs.lemmas.Bool.Decides.{nat_tests}
use Rattle.std.proofs.lemmas.Fmt.{length-decimal-le}
use Rattle.plan_schema.specs.declared.key.Key.{Key}
use Rattle.plan_schema.specs.declared.key.Key.TheVariants as keys
use Rattle.plan_schema.specs.declared.key.Lot.{Lot}
use Rattle.plan_schema.specs.declared.key.Lot.TheVariants.{Exact, Fixed, Least, Period, Best}
use Rattle.plan_schema.specs.declared.key.Span.{Span}
use Rattle.plan_schema.specs.declared.key.Record.{Record}
use Rattle.plan_schema.specs.declared.key.Record.TheVariants as records
use Rattle.plan_schema.specs.Name.{is_name, starts_name, is_name_byte}
use Rattle.plan_schema.specs.Day.{is_day, day_text}
use Rattle.plan_schema.specs.Sound.{is_sound_key, is_sound_row, is_sound_lot, is_sound_span, is_quantity, calendar_is_name, key_has_names, are_apart, record_has_names, is_within}
use Rattle.row_text.specs.Spelling.{spaced, words_text, key_fields, row_fields, record_fields, span_fields, lot_text, week_text, calendar_text, mark}
use Rattle.row_text.proofs.Fields.{and_true, le_true}
use Rattle.command_words.proofs.Seen.{is_seen, is_seen_word, name_seen, number_seen, day_seen, all-append}

abbrev pub is_short_word : List ℕ → Bool
is_short_word word = nat_le (length word) 40 && is_seen_word word

-- few words, all short
pub record AreShort (words : List (List ℕ)) (most : ℕ) : Type 0 where
  pub few : length words ≤ most
  pub short : list_all is_short_word words ≡ true

pub short : (word : List ℕ) → length word ≤ 40 → is_seen_word word ≡ true → is_short_word word ≡ true
short word few seen = and_true (le_true (length word) 40 few) seen

pub no_words : AreShort [] 0
no_words = record { few = omega arith; short = refl }

pub with_word : (word : List ℕ) (words : List (List ℕ)) (most : ℕ) → is_short_word word ≡ true → AreShort words most → AreShort (word ∷ words) (suc most)
with_word word words most h k = let few = k.few in record { few = omega arith; short = and_true h k.short }

pub both_short : (a b : List (List ℕ)) (m n : ℕ) → AreShort a m → AreShort b n → AreShort (a ++ b) (m + n)
both_short a b m n h k = let p = h.few in let q = k.few in record { few = omega (arith, length-append a b); short = all a h.short }
  where
    all : (a : List (List ℕ)) → list_all is_short_word a ≡ true → list_all is_short_word (a ++ b) ≡ true
    all [] e = k.short
    all (w ∷ a) e = let p = and_parts (is_short_word w) (list_all is_short_word a) e in and_true p.0 (all a p.1)

pub more_short : (words : List (List ℕ)) (m n : ℕ) → m ≤ n → AreShort words m → AreShort words n
more_short words m n le h = let few = h.few in record { few = omega arith; short = h.short }

pub name_short : (name : List ℕ) → is_name name ≡ true → is_short_word name ≡ true
unfolding is_name
name_short name h =
    let outer = and_parts (nat_le (length name) 32 && starts_name name) (list_all is_name_byte name) h in
    let inner = and_parts (nat_le (length name) 32) (starts_name name) outer.0 in
    let few : length name ≤ 32 = let e = inner.0 in grind (arith, nat_tests) in
    short name (omega arith) (name_seen name h)

pub number_short : (n : ℕ) → n < 2 ^ 32 → is_short_word (decimal n) ≡ true
number_short n big =
    let few : length (decimal n) ≤ 10 = length-decimal-le 10 n (omega arith) (omega arith) (omega arith) in
    short (decimal n) (omega arith) (number_seen n (omega arith))

pub up_to : (n most : ℕ) → most < 2 ^ 32 → nat_le n most ≡ true → n < 2 ^ 32
up_to n most big h = let below : n ≤ most = grind (arith, nat_tests) in omega arith

pub day_short : (day : ℕ) → is_short_word (day_text day) ≡ true
unfolding day_text
day_short day = short (day_text day) (let ten : length (day_text day) ≡ 10 = refl in omega arith) (day_seen day)

bytes_seen : (word : List ℕ) → is_seen_word word ≡ true → list_all is_seen word ≡ true
bytes_seen word h = let p = and_parts (nat_lt 0 (length word)) (list_all is_seen word) h in p.1

digits_short : (n : ℕ) → is_quantity n ≡ true → (length (decimal n) ≤ 10) × (list_all is_seen (decimal n) ≡ true)
digits_short n h =
    let most : n ≤ 1_000_000_000 = grind (arith, nat_tests) in
    (length-decimal-le 10 n (omega arith) (omega arith) (omega arith), bytes_seen (decimal n) (number_seen n (omega arith)))

some_seen : (byte : ℕ) (word : List ℕ) → list_all is_seen (byte ∷ word) ≡ true → is_seen_word (byte ∷ word) ≡ true
some_seen byte word h = and_true (let some : nat_lt 0 (length (byte ∷ word)) ≡ true = grind (arith, nat_tests) in some) h

lot_short : (lot : Lot) → is_sound_lot lot ≡ true → is_short_word (lot_text lot) ≡ true
unfolding lot_text
lot_short Exact h = refl
lot_short (Fixed qty) h =
    let p = and_parts (nat_le 1 qty) (is_quantity qty) h in
    let digits = digits_short qty p.1 in
    let few = digits.0 in
    short (codes "FOQ:" ++ decimal qty) (omega (arith, length-append (codes "FOQ:") (decimal qty))) (some_seen 70 (79 ∷ 81 ∷ 58 ∷ decimal qty) (and_true refl (and_true refl (and_true refl (and_true refl digits.1)))))
lot_short (Least least step) h =
    let p = and_parts (is_quantity least && nat_le 1 step) (is_quantity step) h in
    let q = and_parts (is_quantity least) (nat_le 1 step) p.0 in
    let first = digits_short least q.0 in
    let second = digits_short step p.1 in
    let few = first.0 in
    let more = second.0 in
    short (codes "MM:" ++ decimal least ++ 58 ∷ decimal step)
    (omega (arith, length-append (codes "MM:" ++ decimal least) (58 ∷ decimal step), length-append (codes "MM:") (decimal least)))
    (some_seen 77 (77 ∷ 58 ∷ (decimal least ++ 58 ∷ decimal step)) (and_true refl (and_true refl (and_true refl (all-append is_seen (decimal least) (58 ∷ decimal step) first.1 (and_true refl second.1))))))
lot_short (Period days) h =
    let p = and_parts (nat_le 1 days) (nat_le days 400) h in
    let few : days ≤ 400 = let e = p.1 in grind (arith, nat_tests) in
    let digits = digits_short days (le_true days 1_000_000_000 (omega arith)) in
    let short_digits = digits.0 in
    short (codes "POQ:" ++ decimal days) (omega (arith, length-append (codes "POQ:") (decimal days))) (some_seen 80 (79 ∷ 81 ∷ 58 ∷ decimal days) (and_true refl (and_true refl (and_true refl (and_true refl digits.1)))))
lot_short (Best setup hold) h =
    let p = and_parts (is_quantity setup) (nat_le hold 1_000_000) h in
    let low : hold ≤ 1_000_000 = let e = p.1 in grind (arith, nat_tests) in
    let first = digits_short setup p.0 in
    let second = digits_short hold (le_true hold 1_000_000_000 (omega arith)) in
    let few = first.0 in
    let more = second.0 in
    short (codes "WW:" ++ decimal setup ++ 58 ∷ decimal hold)
    (omega (arith, length-append (codes "WW:" ++ decimal setup) (58 ∷ decimal hold), length-append (codes "WW:") (decimal setup)))
    (some_seen 87 (87 ∷ 58 ∷ (decimal setup ++ 58 ∷ decimal hold)) (and_true refl (and_true refl (and_true refl (all-append is_seen (decimal setup) (58 ∷ decimal hold) first.1 (and_true refl second.1))))))

mark_seen : (works : Bool) → is_seen (mark works) ≡ true
mark_seen true = refl
mark_seen false = refl

week_short : (week : List Bool) → is_short_word (week_text week) ≡ true
unfolding week_text
week_short week =
    and_true refl (and_true refl (and_true (mark_seen (slice_index_or week 0 false)) (and_true (mark_seen (slice_index_or week 1 false)) (and_true (mark_seen (slice_index_or week 2 false))
    (and_true (mark_seen (slice_index_or week 3 false)) (and_true (mark_seen (slice_index_or week 4 false)) (and_true (mark_seen (slice_index_or week 5 false)) (and_true (mark_seen (slice_index_or week 6 false)) refl))))))))

calendar_short : (calendar : Option (List ℕ)) → calendar_is_name calendar ≡ true → is_short_word (calendar_text calendar) ≡ true
unfolding calendar_text
calendar_short None h = refl
calendar_short (Some name) h = name_short name h

span_short : (span : Option Span) → AreShort (span_fields span) 2
unfolding span_fields
span_short None = more_short [] 0 2 (omega arith) no_words
span_short (Some span) = with_word (day_text span.from) (day_text span.to ∷ []) 1 (day_short span.from) (with_word (day_text span.to) [] 0 (day_short span.to) no_words)

pub one_short : (word : List ℕ) → is_short_word word ≡ true → AreShort (word ∷ []) 1
one_short word h = with_word word [] 0 h no_words

pub two_short : (a b : List ℕ) → is_short_word a ≡ true → is_short_word b ≡ true → AreShort (a ∷ b ∷ []) 2
two_short a b h k = with_word a (b ∷ []) 1 h (one_short b k)

pub three_short : (a b c : List ℕ) → is_short_word a ≡ true → is_short_word b ≡ true → is_short_word c ≡ true → AreShort (a ∷ b ∷ c ∷ []) 3
three_short a b c h k l = with_word a (b ∷ c ∷ []) 2 h (two_short b c k l)

pub key_short : (key : Key) → key_has_names key ≡ true → AreShort (key_fields key) 3
unfolding key_fields
key_short keys.Plan h = more_short (codes "PLAN" ∷ []) 1 3 (omega arith) (one_short (codes "PLAN") refl)
key_short (keys.Cal name) h = more_short (codes "CAL" ∷ name ∷ []) 2 3 (omega arith) (two_short (codes "CAL") name refl (name_short name h))
key_short (keys.Holiday name day) h = let p = and_parts (is_name name) (is_day day) h in three_short (codes "HOLIDAY") name (day_text day) refl (name_short name p.0) (day_short day)
key_short (keys.Part name) h = more_short (codes "PART" ∷ name ∷ []) 2 3 (omega arith) (two_short (codes "PART") name refl (name_short name h))
key_short (keys.Stock part) h = more_short (codes "STOCK" ∷ part ∷ []) 2 3 (omega arith) (two_short (codes "STOCK") part refl (name_short part h))
key_short (keys.Demand part order) h = let p = and_parts (is_name part) (is_name order) h in three_short (codes "DEMAND") part order refl (name_short part p.0) (name_short order p.1)
key_short (keys.Receipt part order) h = let p = and_parts (is_name part) (is_name order) h in three_short (codes "RECEIPT") part order refl (name_short part p.0) (name_short order p.1)
key_short (keys.Bill parent component) h = let p = and_parts (is_name parent) (is_name component) h in three_short (codes "BILL") parent component refl (name_short parent p.0) (name_short component p.1)

record_short : (key : Key) (value : Record) → record_has_names value ≡ true → is_within key value ≡ true → AreShort (record_fields value) 4
unfolding record_fields
record_short keys.Plan (records.Plan start days) h w =
    let p = and_parts (nat_le 1 days && nat_le days 400) (nat_le (start + days) 36525) w in
    let q = and_parts (nat_le 1 days) (nat_le days 400) p.0 in
    more_short (day_text start ∷ decimal days ∷ []) 2 4 (omega arith) (two_short (day_text start) (decimal days) (day_short start) (number_short days (up_to days 400 (omega arith) q.1)))
record_short (keys.Cal name) (records.Cal week) h w = more_short (week_text week ∷ []) 1 4 (omega arith) (one_short (week_text week) (week_short week))
record_short (keys.Holiday name day) records.Holiday h w = more_short [] 0 4 (omega arith) no_words
record_short (keys.Part name) (records.Part lead lot safety calendar) h w =
    let p = and_parts (nat_le lead 365 && is_sound_lot lot) (is_quantity safety) w in
    let q = and_parts (nat_le lead 365) (is_sound_lot lot) p.0 in
    with_word (decimal lead) (lot_text lot ∷ decimal safety ∷ calendar_text calendar ∷ []) 3 (number_short lead (up_to lead 365 (omega arith) q.0))
    (three_short (lot_text lot) (decimal safety) (calendar_text calendar) (lot_short lot q.1) (number_short safety (up_to safety 1_000_000_000 (omega arith) p.1)) (calendar_short calendar h))
record_short (keys.Stock part) (records.Stock qty) h w = more_short (decimal qty ∷ []) 1 4 (omega arith) (one_short (decimal qty) (number_short qty (up_to qty 1_000_000_000 (omega arith) w)))
record_short (keys.Demand part order) (records.Demand day qty) h w = more_short (day_text day ∷ decimal qty ∷ []) 2 4 (omega arith) (two_short (day_text day) (decimal qty) (day_short day) (number_short qty (up_to qty 1_000_000_000 (omega arith) w)))
record_short (keys.Receipt part order) (records.Receipt day qty) h w = more_short (day_text day ∷ decimal qty ∷ []) 2 4 (omega arith) (two_short (day_text day) (decimal qty) (day_short day) (number_short qty (up_to qty 1_000_000_000 (omega arith) w)))
record_short (keys.Bill parent component) (records.Bill per span) h w =
    let p = and_parts (nat_le 1 per && nat_le per 1_000_000) (is_sound_span span) w in
    let q = and_parts (nat_le 1 per) (nat_le per 1_000_000) p.0 in
    more_short (decimal per ∷ span_fields span) 3 4 (omega arith) (with_word (decimal per) (span_fields span) 2 (number_short per (up_to per 1_000_000 (omega arith) q.1)) (span_short span))
record_short _ _ h w = cc

pub row_short : (key : Key) (value : Record) → is_sound_row key value ≡ true → AreShort (row_fields key value) 7
unfolding row_fields
row_short key value h =
    let p = and_parts (is_sound_key key && record_has_names value) (is_within key value) h in
    let q = and_parts (is_sound_key key) (record_has_names value) p.0 in
    let k = and_parts (key_has_names key) (are_apart key) q.0 in
    both_short (key_fields key) (record_fields value) 3 4 (key_short key k.0) (record_short key value q.1 p.1)

-- short words are seen
pub all_seen : (words : List (List ℕ)) → list_all is_short_word words ≡ true → list_all is_seen_word words ≡ true
all_seen [] h = refl
all_seen (word ∷ words) h =
    let p = and_parts (is_short_word word) (list_all is_short_word words) h in
    let q = and_parts (nat_le (length word) 40) (is_seen_word word) p.0 in
    and_true q.1 (all_seen words p.1)

pub key_seen : (key : Key) → key_has_names key ≡ true → list_all is_seen_word (key_fields key) ≡ true
key_seen key h = all_seen (key_fields key) (key_short key h).short

pub row_seen : (key : Key) (value : Record) → is_sound_row key value ≡ true → list_all is_seen_word (row_fields key value) ≡ true
row_seen key value h = all_seen (row_fields key value) (row_short key value h).short

-- the text of few short words is short
pub text_short : (words : List (List ℕ)) (most : ℕ) → AreShort words most → length (words_text words) ≤ 41 * most
text_short [] most h = omega arith
text_short (word ∷ words) most h = let few = h.few in let rest = spaced_short words (and_parts (is_short_word word) (list_all is_short_word words) h.short).1 in
    let one = word_short word (and_parts (is_short_word word) (list_all is_short_word words) h.short).0 in omega (arith, length-append word (spaced words))
  where
    word_short : (word : List ℕ) → is_short_word word ≡ true → length word ≤ 40
    word_short word e = let q = (and_parts (nat_le (length word) 40) (is_seen_word word) e).0 in grind (arith, nat_tests)

    spaced_short : (words : List (List ℕ)) → list_all is_short_word words ≡ true → length (spaced words) ≤ 41 * length words
    spaced_short [] e = omega arith
    spaced_short (word ∷ words) e =
        let p = and_parts (is_short_word word) (list_all is_short_word words) e in
        let one = word_short word p.0 in
        let rest = spaced_short words p.1 in
        omega (arith, length-append (32 ∷ word) (spaced words))
