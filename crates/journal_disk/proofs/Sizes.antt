-- How long the texts of sound entries are.
use Rattle.std.proofs.Common.{◌≡◌, ℕ, suc, ◌+◌, ◌*◌, ◌≤◌, Bool, true, not, ◌&&◌, nat_le, List, [], ◌∷◌, ◌++◌, length, Option, Some, None, arith, length-append}
use Rattle.std.specs.Prelude.{codes, decimal}
use Rattle.std.specs.List.{list_all}
use Rattle.std.proofs.lemmas.Bool.{and_parts}
use Rattle.std.proofs.lemmas.Bool.Decides.{nat_tests}
use Rattle.std.proofs.lemmas.Fmt.{length-decimal-le}
use Rattle.std.proofs.lemmas.List.Sums.{sum_by-cons}
use Rattle.plan_schema.specs.declared.key.Key.{Key}
use Rattle.plan_schema.specs.declared.key.Key.TheVariants as keys
use Rattle.plan_schema.specs.declared.key.Lot.{Lot}
use Rattle.plan_schema.specs.declared.key.Lot.TheVariants.{Exact, Fixed, Least, Period, Best}
use Rattle.plan_schema.specs.declared.key.Span.{Span}
use Rattle.plan_schema.specs.declared.key.Record.{Record}
use Rattle.plan_schema.specs.declared.key.Record.TheVariants as records
use Rattle.plan_schema.specs.declared.change.Change.{Change}
use Rattle.plan_schema.specs.declared.change.Change.TheVariants as changes
use Rattle.plan_schema.specs.declared.change.Entry.{Entry}
use Rattle.plan_schema.specs.Name.{is_name, starts_name, is_name_byte}
use Rattle.plan_schema.specs.Day.{is_day, day_text}
use Rattle.plan_schema.specs.Key.{key_eq}
use Rattle.plan_schema.specs.Sound.{is_sound_key, is_sound_row, are_sound_rows, is_sound_lot, is_sound_span, is_quantity, calendar_is_name, key_has_names, are_apart, record_has_names, is_within, is_sound_change, is_sound_entry}
use Rattle.plan_schema.specs.declared.limits.TheConstants.{LOAD_LIMIT, SESSION_LIMIT, LINE_LIMIT}
use Rattle.command_words.specs.Replies.{ended}
use Rattle.command_words.specs.Spelling.{words_of_command}
use Rattle.scenario_rules.specs.Refused.{record_count, record_counts}
use Rattle.plan_journal.specs.Entries.{change_words, entry_line, rows_text, rows_behind, entry_text}
use Rattle.plan_journal.specs.Journal.{AreSound}
use Rattle.journal_disk.specs.Images.{block_bytes, end_behind}
use Rattle.journal_disk.specs.Laws.{HistoriesFit}
use Rattle.journal_disk.proofs.Held.{block_size}
use Rattle.row_text.specs.Spelling.{spaced, words_text, key_fields, row_fields, row_text, record_fields, span_fields, lot_text, week_text, calendar_text}

-- words, each with a space
words_more : (word : List ℕ) (words : List (List ℕ)) (most more : ℕ) → length word ≤ most → length (spaced words) ≤ more → length (spaced (word ∷ words)) ≤ (1 + most) + more
words_more word words most more few rest = omega (arith, length-append (32 ∷ word) (spaced words))

no_more : length (spaced []) ≤ 0
no_more = omega arith

words_joined : (a b : List (List ℕ)) (m n : ℕ) → length (spaced a) ≤ m → length (spaced b) ≤ n → length (spaced (a ++ b)) ≤ m + n
words_joined [] b m n few rest = omega arith
words_joined (word ∷ a) b m n few rest =
    let both = words_joined a b (length (spaced a)) n (omega arith) rest in
    omega (arith, length-append (32 ∷ word) (spaced a), length-append (32 ∷ word) (spaced (a ++ b)))

words_within : (words : List (List ℕ)) → length (words_text words) ≤ length (spaced words)
words_within [] = omega arith
words_within (word ∷ words) = omega (arith, length-append word (spaced words), length-append (32 ∷ word) (spaced words))

name_small : (name : List ℕ) → is_name name ≡ true → length name ≤ 32
unfolding is_name
name_small name h =
    let outer = and_parts (nat_le (length name) 32 && starts_name name) (list_all is_name_byte name) h in
    let inner = (and_parts (nat_le (length name) 32) (starts_name name) outer.0).0 in
    grind (arith, nat_tests)

number_small : (n most : ℕ) → most ≤ 1_000_000_000 → nat_le n most ≡ true → length (decimal n) ≤ 10
number_small n most big h = let few : n ≤ most = grind (arith, nat_tests) in length-decimal-le 10 n (omega arith) (omega arith) (omega arith)

day_small : (day : ℕ) → length (day_text day) ≤ 10
unfolding day_text
day_small day = omega arith

lot_small : (lot : Lot) → is_sound_lot lot ≡ true → length (lot_text lot) ≤ 24
unfolding lot_text
lot_small Exact h = omega arith
lot_small (Fixed qty) h =
    let p = and_parts (nat_le 1 qty) (is_quantity qty) h in
    omega (arith, number_small qty 1_000_000_000 (omega arith) p.1, length-append (codes "FOQ:") (decimal qty))
lot_small (Least least step) h =
    let p = and_parts (is_quantity least && nat_le 1 step) (is_quantity step) h in
    let q = and_parts (is_quantity least) (nat_le 1 step) p.0 in
    omega (arith, number_small least 1_000_000_000 (omega arith) q.0, number_small step 1_000_000_000 (omega arith) p.1, length-append (codes "MM:" ++ decimal least) (58 ∷ decimal step), length-append (codes "MM:") (decimal least))
lot_small (Period days) h =
    let p = and_parts (nat_le 1 days) (nat_le days 400) h in
    omega (arith, number_small days 400 (omega arith) p.1, length-append (codes "POQ:") (decimal days))
lot_small (Best setup hold) h =
    let p = and_parts (is_quantity setup) (nat_le hold 1_000_000) h in
    omega (arith, number_small setup 1_000_000_000 (omega arith) p.0, number_small hold 1_000_000 (omega arith) p.1, length-append (codes "WW:" ++ decimal setup) (58 ∷ decimal hold), length-append (codes "WW:") (decimal setup))

calendar_small : (calendar : Option (List ℕ)) → calendar_is_name calendar ≡ true → length (calendar_text calendar) ≤ 32
unfolding calendar_text
calendar_small None h = omega arith
calendar_small (Some name) h = name_small name h

week_small : (week : List Bool) → length (week_text week) ≤ 10
unfolding week_text
week_small week = omega arith

one : (a : List ℕ) (x most : ℕ) → length a ≤ x → 1 + x ≤ most → length (spaced (a ∷ [])) ≤ most
one a x most h fits = let w = words_more a [] x 0 h no_more in omega arith

two : (a b : List ℕ) (x y most : ℕ) → length a ≤ x → length b ≤ y → 2 + x + y ≤ most → length (spaced (a ∷ b ∷ [])) ≤ most
two a b x y most h k fits = let w = words_more a (b ∷ []) x (1 + y) h (one b y (1 + y) k (omega arith)) in omega arith

three : (a b c : List ℕ) (x y z most : ℕ) → length a ≤ x → length b ≤ y → length c ≤ z → 3 + x + y + z ≤ most → length (spaced (a ∷ b ∷ c ∷ [])) ≤ most
three a b c x y z most h k l fits = let w = words_more a (b ∷ c ∷ []) x (2 + y + z) h (two b c y z (2 + y + z) k l (omega arith)) in omega arith

key_small : (key : Key) → key_has_names key ≡ true → length (spaced (key_fields key)) ≤ 75
unfolding key_fields
key_small keys.Plan h = one (codes "PLAN") 4 75 (omega arith) (omega arith)
key_small (keys.Cal name) h = two (codes "CAL") name 3 32 75 (omega arith) (name_small name h) (omega arith)
key_small (keys.Holiday name day) h =
    let p = and_parts (is_name name) (is_day day) h in three (codes "HOLIDAY") name (day_text day) 7 32 10 75 (omega arith) (name_small name p.0) (day_small day) (omega arith)
key_small (keys.Part name) h = two (codes "PART") name 4 32 75 (omega arith) (name_small name h) (omega arith)
key_small (keys.Stock part) h = two (codes "STOCK") part 5 32 75 (omega arith) (name_small part h) (omega arith)
key_small (keys.Demand part order) h =
    let p = and_parts (is_name part) (is_name order) h in three (codes "DEMAND") part order 6 32 32 75 (omega arith) (name_small part p.0) (name_small order p.1) (omega arith)
key_small (keys.Receipt part order) h =
    let p = and_parts (is_name part) (is_name order) h in three (codes "RECEIPT") part order 7 32 32 75 (omega arith) (name_small part p.0) (name_small order p.1) (omega arith)
key_small (keys.Bill parent component) h =
    let p = and_parts (is_name parent) (is_name component) h in three (codes "BILL") parent component 4 32 32 75 (omega arith) (name_small parent p.0) (name_small component p.1) (omega arith)

span_small : (span : Option Span) → length (spaced (span_fields span)) ≤ 22
unfolding span_fields
span_small None = omega arith
span_small (Some span) = two (day_text span.from) (day_text span.to) 10 10 22 (day_small span.from) (day_small span.to) (omega arith)

record_small : (key : Key) (value : Record) → record_has_names value ≡ true → is_within key value ≡ true → length (spaced (record_fields value)) ≤ 80
unfolding record_fields
record_small keys.Plan (records.Plan start days) h w =
    let p = and_parts (nat_le 1 days && nat_le days 400) (nat_le (start + days) 36525) w in
    let q = and_parts (nat_le 1 days) (nat_le days 400) p.0 in
    two (day_text start) (decimal days) 10 10 80 (day_small start) (number_small days 400 (omega arith) q.1) (omega arith)
record_small (keys.Cal name) (records.Cal week) h w = one (week_text week) 10 80 (week_small week) (omega arith)
record_small (keys.Holiday name day) records.Holiday h w = omega arith
record_small (keys.Part name) (records.Part lead lot safety calendar) h w =
    let p = and_parts (nat_le lead 365 && is_sound_lot lot) (is_quantity safety) w in
    let q = and_parts (nat_le lead 365) (is_sound_lot lot) p.0 in
    let rest = three (lot_text lot) (decimal safety) (calendar_text calendar) 24 10 32 69 (lot_small lot q.1) (number_small safety 1_000_000_000 (omega arith) p.1) (calendar_small calendar h) (omega arith) in
    let all = words_more (decimal lead) (lot_text lot ∷ decimal safety ∷ calendar_text calendar ∷ []) 10 69 (number_small lead 365 (omega arith) q.0) rest in
    omega arith
record_small (keys.Stock part) (records.Stock qty) h w = one (decimal qty) 10 80 (number_small qty 1_000_000_000 (omega arith) w) (omega arith)
record_small (keys.Demand part order) (records.Demand day qty) h w = two (day_text day) (decimal qty) 10 10 80 (day_small day) (number_small qty 1_000_000_000 (omega arith) w) (omega arith)
record_small (keys.Receipt part order) (records.Receipt day qty) h w = two (day_text day) (decimal qty) 10 10 80 (day_small day) (number_small qty 1_000_000_000 (omega arith) w) (omega arith)
record_small (keys.Bill parent component) (records.Bill per span) h w =
    let p = and_parts (nat_le 1 per && nat_le per 1_000_000) (is_sound_span span) w in
    let q = and_parts (nat_le 1 per) (nat_le per 1_000_000) p.0 in
    let all = words_more (decimal per) (span_fields span) 10 22 (number_small per 1_000_000 (omega arith) q.1) (span_small span) in
    omega arith
record_small _ _ h w = cc

row_small : (key : Key) (value : Record) → is_sound_row key value ≡ true → length (spaced (row_fields key value)) ≤ 155
unfolding row_fields
row_small key value h =
    let p = and_parts (is_sound_key key && record_has_names value) (is_within key value) h in
    let q = and_parts (is_sound_key key) (record_has_names value) p.0 in
    let k = and_parts (key_has_names key) (are_apart key) q.0 in
    words_joined (key_fields key) (record_fields value) 75 80 (key_small key k.0) (record_small key value q.1 p.1)

rows_small : (rows : List (Key × Record)) → are_sound_rows rows ≡ true → length (rows_text rows) ≤ 156 * length rows
unfolding row_text
rows_small [] h = omega arith
rows_small (row ∷ rows) h =
    let p = and_parts (is_sound_row row.0 row.1) (are_sound_rows rows) h in
    let line : List ℕ = words_text (row_fields row.0 row.1) in
    omega (arith, row_small row.0 row.1 p.0, words_within (row_fields row.0 row.1), rows_small rows p.1, length-append line (10 ∷ []), length-append (ended line) (rows_text rows))

alone : (verb scenario : List ℕ) → (is_name scenario && true) ≡ true → length verb ≤ 6 → length (spaced (verb ∷ scenario ∷ [])) + 0 ≤ 118 + 156 * 0
alone verb scenario h few =
    let name = name_small scenario (and_parts (is_name scenario) true h).0 in
    let words = two verb scenario 6 32 118 few name (omega arith) in
    omega arith

-- what a change has in its entry's line, and behind it
change_small : (change : Change) → is_sound_change change ≡ true → length (spaced (change_words change)) + length (rows_behind change) ≤ 118 + 156 * record_count change
unfolding change_words words_of_command
change_small (changes.Put scenario key value) h =
    let p = and_parts (is_name scenario) (is_sound_row key value) h in
    let words = words_more (codes "PUT") (scenario ∷ row_fields key value) 6 188 (omega arith) (words_more scenario (row_fields key value) 32 155 (name_small scenario p.0) (row_small key value p.1)) in
    omega arith
change_small (changes.Del scenario key) h =
    let p = and_parts (is_name scenario) (is_sound_key key && not (key_eq key keys.Plan)) h in
    let q = and_parts (is_sound_key key) (not (key_eq key keys.Plan)) p.1 in
    let k = and_parts (key_has_names key) (are_apart key) q.0 in
    let words = words_more (codes "DEL") (scenario ∷ key_fields key) 6 108 (omega arith) (words_more scenario (key_fields key) 32 75 (name_small scenario p.0) (key_small key k.0)) in
    omega arith
change_small (changes.Load scenario rows) h =
    let p = and_parts (is_name scenario) (nat_le 1 (length rows) && nat_le (length rows) LOAD_LIMIT && are_sound_rows rows) h in
    let q = and_parts (nat_le 1 (length rows) && nat_le (length rows) LOAD_LIMIT) (are_sound_rows rows) p.1 in
    let r = and_parts (nat_le 1 (length rows)) (nat_le (length rows) LOAD_LIMIT) q.0 in
    let words = three (codes "LOAD") scenario (decimal (length rows)) 4 32 10 118 (omega arith) (name_small scenario p.0) (number_small (length rows) LOAD_LIMIT (omega arith) r.1) (omega arith) in
    omega (arith, rows_small rows q.1)
change_small (changes.Branch parent child) h =
    let p = and_parts (is_name parent && is_name child) true h in
    let q = and_parts (is_name parent) (is_name child) p.0 in
    let words = three (codes "BRANCH") parent child 6 32 32 118 (omega arith) (name_small parent q.0) (name_small child q.1) (omega arith) in
    omega arith
change_small (changes.Share scenario) h = alone (codes "SHARE") scenario h (omega arith)
change_small (changes.Update scenario) h = alone (codes "UPDATE") scenario h (omega arith)
change_small (changes.Commit scenario) h = alone (codes "COMMIT") scenario h (omega arith)
change_small (changes.Drop scenario) h = alone (codes "DROP") scenario h (omega arith)

text_small : (number : ℕ) (entry : Entry) → number ≤ 1_000_000_000 → is_sound_entry entry ≡ true → length (entry_text number entry) ≤ 185 + 156 * record_count entry.change
unfolding entry_text entry_line
text_small number entry few h =
    let f = and_parts (nat_le 1 entry.session && nat_le entry.session SESSION_LIMIT && nat_le 1 entry.line && nat_le entry.line LINE_LIMIT && is_name entry.user) (is_sound_change entry.change) h in
    let e = and_parts (nat_le 1 entry.session && nat_le entry.session SESSION_LIMIT && nat_le 1 entry.line && nat_le entry.line LINE_LIMIT) (is_name entry.user) f.0 in
    let d = and_parts (nat_le 1 entry.session && nat_le entry.session SESSION_LIMIT && nat_le 1 entry.line) (nat_le entry.line LINE_LIMIT) e.0 in
    let c = and_parts (nat_le 1 entry.session && nat_le entry.session SESSION_LIMIT) (nat_le 1 entry.line) d.0 in
    let b = and_parts (nat_le 1 entry.session) (nat_le entry.session SESSION_LIMIT) c.0 in
    let change : List (List ℕ) = change_words entry.change in
    let all : ℕ = length (spaced change) in
    let number_is : length (decimal number) ≤ 10 = length-decimal-le 10 number (omega arith) (omega arith) (omega arith) in
    let user = words_more entry.user change 32 all (name_small entry.user e.1) (omega arith) in
    let line = words_more (decimal entry.line) (entry.user ∷ change) 10 (33 + all) (number_small entry.line LINE_LIMIT (omega arith) d.1) (omega (arith, user)) in
    let session = words_more (decimal entry.session) (decimal entry.line ∷ entry.user ∷ change) 10 (44 + all) (number_small entry.session SESSION_LIMIT (omega arith) b.1) (omega (arith, line)) in
    let words : List (List ℕ) = decimal number ∷ decimal entry.session ∷ decimal entry.line ∷ entry.user ∷ change in
    let whole = words_more (decimal number) (decimal entry.session ∷ decimal entry.line ∷ entry.user ∷ change) 10 (55 + all) number_is (omega (arith, session)) in
    omega (arith, change_small entry.change f.1, whole, words_within words, length-append (words_text words) (10 ∷ []), length-append (ended (words_text words)) (rows_behind entry.change))

-- how many records a sound change carries
records_few : (change : Change) → is_sound_change change ≡ true → record_count change ≤ 1_000
records_few (changes.Put scenario key value) h = omega arith
records_few (changes.Del scenario key) h = omega arith
records_few (changes.Load scenario rows) h =
    let p = and_parts (is_name scenario) (nat_le 1 (length rows) && nat_le (length rows) LOAD_LIMIT && are_sound_rows rows) h in
    let q = and_parts (nat_le 1 (length rows) && nat_le (length rows) LOAD_LIMIT) (are_sound_rows rows) p.1 in
    let r = (and_parts (nat_le 1 (length rows)) (nat_le (length rows) LOAD_LIMIT) q.0).1 in
    let few : length rows ≤ LOAD_LIMIT = grind (arith, nat_tests) in
    omega arith
records_few _ h = omega arith

blocks_small : (number : ℕ) (entries : List Entry) → number + length entries ≤ 1_000_000_000 → AreSound entries → block_bytes number entries ≤ 190 * length entries + 156 * record_counts entries
blocks_small number [] few sound = omega arith
blocks_small number (entry ∷ entries) few sound =
    let sum : record_counts (entry ∷ entries) ≡ record_count entry.change + record_counts entries = sum_by-cons (λ (e : Entry). record_count e.change) entry entries in
    omega (arith, sum, text_small number entry (omega arith) (sound 0), blocks_small (number + 1) entries (omega arith) (λ k. sound (suc k)))

pub histories_fit : HistoriesFit
unfolding end_behind
histories_fit entries entry journal sound =
    let few : length entries ≤ 1_000_000 = journal.few in
    let records : record_counts entries ≤ 4_000_000 = journal.records in
    let front = (and_parts (nat_le 1 entry.session && nat_le entry.session SESSION_LIMIT && nat_le 1 entry.line && nat_le entry.line LINE_LIMIT && is_name entry.user) (is_sound_change entry.change) sound).1 in
    omega (arith, blocks_small 1 entries (omega arith) journal.sound, text_small (length entries + 1) entry (omega arith) sound, records_few entry.change front, block_size (entry_text (length entries + 1) entry))
