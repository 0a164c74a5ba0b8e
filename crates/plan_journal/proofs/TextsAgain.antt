-- What is spelled as entries is read.
use Rattle.std.proofs.Common.{◌≡◌, ℕ, suc, ◌+◌, ◌-◌, ◌^◌, ◌<◌, ◌≤◌, Bool, true, false, not, ◌&&◌, cond, nat_le, nat_lt, List, [], ◌∷◌, ◌++◌, length, map, Some, None, Result, Ok, refl, sym, ap, ◌∙◌, subst, arith, length-append, append_assoc, append-nil}
use Rattle.std.specs.Prelude.{◌==◌, decimal}
use Rattle.std.specs.List.{list_all, flat_map}
use Rattle.std.proofs.lemmas.Bool.{and_parts}
use Rattle.std.proofs.lemmas.Bool.Decides.{nat_tests}
use Rattle.std.proofs.lemmas.List.Sums.{sum_by-cons}
use Rattle.std.proofs.lemmas.Grind.{flat_map-append}
use Rattle.plan_schema.specs.declared.key.Key.{Key}
use Rattle.plan_schema.specs.declared.key.Record.{Record}
use Rattle.plan_schema.specs.declared.change.Change.{Change}
use Rattle.plan_schema.specs.declared.change.Change.TheVariants as changes
use Rattle.plan_schema.specs.declared.change.Entry.{Entry}
use Rattle.plan_schema.specs.Name.{is_name}
use Rattle.plan_schema.specs.Sound.{is_sound_row, are_sound_rows, is_sound_change, is_sound_entry}
use Rattle.row_text.specs.Row.{◌>>=◌}
use Rattle.row_text.specs.Spelling.{spaced, words_text, row_fields, row_text}
use Rattle.row_text.proofs.Fields.{and_true, le_true}
use Rattle.command_words.specs.Replies.{ended}
use Rattle.command_words.specs.Spelling.{words_of_command}
use Rattle.command_words.proofs.Seen.{is_seen, is_seen_word, name_seen, number_seen, all-append}
use Rattle.scenario_rules.specs.Refused.{record_count, record_counts}
use Rattle.plan_journal.specs.Entries.{command_for, change_words, entry_line, rows_behind, entry_text, entries_text}
use Rattle.plan_journal.specs.Cuts.{onto_line, parts_of}
use Rattle.plan_journal.specs.Versions.{row_is_of, change_is_of, are_of}
use Rattle.plan_journal.specs.Begun as begins
use Rattle.plan_journal.specs.Begun.{where_so, row_in, change_with_row, with_row, records_of, begun_of}
use Rattle.plan_journal.specs.Places.{Place, nothing, kept, has_room, behind_entry_line, behind_row, continued}
use Rattle.plan_journal.specs.Reading.{told, place_behind, finished, entries_from}
use Rattle.plan_journal.specs.declared.begun.Begun.{Begun}
use Rattle.plan_journal.specs.declared.frame.Frame.{Frame}
use Rattle.plan_journal.proofs.Pieces.{line_before}
use Rattle.command_words.proofs.ShortWords.{row_short}
use Rattle.plan_journal.proofs.EntryLines.{seen_of_short, row_read}
use Rattle.plan_journal.proofs.BegunLines.{head_holds, change_short, without_rows, row_count, begun_with, begun_read}
use Rattle.plan_journal.proofs.PlaceTexts.{kept_waits, AreRead}

abbrev At : Type 0
At = Result Place ℕ

-- the lines of rows and entries ---------------------------------------------------------------------------------------------

abbrev pub row_line : Key × Record → List ℕ
row_line row = row_text row.0 row.1

abbrev pub row_lines : Change → List (List ℕ)
row_lines (changes.Load scenario rows) = map row_line rows
row_lines _ = []

abbrev pub entry_lines : ℕ → Entry → List (List ℕ)
entry_lines number entry = entry_line number entry ∷ row_lines entry.change

abbrev pub entries_lines : ℕ → List Entry → List (List ℕ)
entries_lines number [] = []
entries_lines number (entry ∷ more) = entry_lines number entry ++ entries_lines (number + 1) more

rows_lines_text : (change : Change) → flat_map ended (row_lines change) ≡ rows_behind change
rows_lines_text (changes.Load scenario rows) = refl
rows_lines_text change = refl

pub entries_lines_text : (number : ℕ) (entries : List Entry) → flat_map ended (entries_lines number entries) ≡ entries_text number entries
unfolding entry_text
entries_lines_text number [] = refl
entries_lines_text number (entry ∷ more) =
    flat_map-append ended (entry_lines number entry) (entries_lines (number + 1) more)
    ∙ (λ i. (ended (entry_line number entry) ++ rows_lines_text entry.change i) ++ entries_lines_text (number + 1) more i)

-- lines without line feeds -----------------------------------------------------------------------------------------------------

abbrev pub is_of_line : ℕ → Bool
is_of_line byte = not (byte == 10)

pub parts_line : (line rest : List ℕ) → list_all is_of_line line ≡ true → parts_of (line ++ 10 ∷ rest) ≡ line_before line (parts_of rest)
unfolding parts_of
parts_line [] rest h = refl
parts_line (byte ∷ line) rest h =
    let p = and_parts (is_of_line byte) (list_all is_of_line line) h in
    let other : (byte == 10) ≡ false = let e = p.0 in grind (arith, nat_tests) in
    let parts = parts_of (line ++ 10 ∷ rest) in
    ap (λ t. cond t ([] ∷ parts.0, parts.1) (onto_line byte parts.0 parts.1)) other ∙ ap (λ (q : List (List ℕ) × List ℕ). onto_line byte q.0 q.1) (parts_line line rest p.1)

pub parts_lines : (lines : List (List ℕ)) (rest : List ℕ) → list_all (list_all is_of_line) lines ≡ true → parts_of (flat_map ended lines ++ rest) ≡ (lines ++ (parts_of rest).0, (parts_of rest).1)
parts_lines [] rest h = refl
parts_lines (line ∷ lines) rest h =
    let p = and_parts (list_all is_of_line line) (list_all (list_all is_of_line) lines) h in
    ap parts_of (append_assoc (ended line) (flat_map ended lines) rest ∙ append_assoc line (10 ∷ []) (flat_map ended lines ++ rest))
    ∙ parts_line line (flat_map ended lines ++ rest) p.0 ∙ ap (line_before line) (parts_lines lines rest p.1)

seen_of_line : (line : List ℕ) → list_all is_seen line ≡ true → list_all is_of_line line ≡ true
seen_of_line [] h = refl
seen_of_line (byte ∷ line) h =
    let p = and_parts (is_seen byte) (list_all is_seen line) h in
    and_true (let e = p.0 in let on : is_of_line byte ≡ true = grind (arith, nat_tests) in on) (seen_of_line line p.1)

word_of_line : (word : List ℕ) → is_seen_word word ≡ true → list_all is_of_line word ≡ true
word_of_line word h = let p = and_parts (nat_lt 0 (length word)) (list_all is_seen word) h in seen_of_line word p.1

spaced_of_line : (words : List (List ℕ)) → list_all is_seen_word words ≡ true → list_all is_of_line (spaced words) ≡ true
spaced_of_line [] h = refl
spaced_of_line (word ∷ words) h =
    let p = and_parts (is_seen_word word) (list_all is_seen_word words) h in
    all-append is_of_line (32 ∷ word) (spaced words) (and_true refl (word_of_line word p.0)) (spaced_of_line words p.1)

words_of_line : (words : List (List ℕ)) → list_all is_seen_word words ≡ true → list_all is_of_line (words_text words) ≡ true
words_of_line [] h = refl
words_of_line (word ∷ words) h =
    let p = and_parts (is_seen_word word) (list_all is_seen_word words) h in
    all-append is_of_line word (spaced words) (word_of_line word p.0) (spaced_of_line words p.1)

rows_of_line : (rows : List (Key × Record)) → are_sound_rows rows ≡ true → list_all (list_all is_of_line) (map row_line rows) ≡ true
unfolding row_text
rows_of_line [] h = refl
rows_of_line (row ∷ rows) h =
    let p = and_parts (is_sound_row row.0 row.1) (are_sound_rows rows) h in
    and_true (words_of_line (row_fields row.0 row.1) (seen_of_short (row_fields row.0 row.1) (row_short row.0 row.1 p.0).short)) (rows_of_line rows p.1)

behind_of_line : (change : Change) → is_sound_change change ≡ true → list_all (list_all is_of_line) (row_lines change) ≡ true
behind_of_line (changes.Load scenario rows) h =
    let p = and_parts (is_name scenario) (nat_le 1 (length rows) && nat_le (length rows) 1_000 && are_sound_rows rows) h in
    let q = and_parts (nat_le 1 (length rows) && nat_le (length rows) 1_000) (are_sound_rows rows) p.1 in
    rows_of_line rows q.1
behind_of_line _ h = refl

-- the limits of an entry
record HeadHolds (entry : Entry) : Type 0 where
  pub session : entry.session ≤ 16
  pub line : entry.line ≤ 1_000_000
  pub user : is_name entry.user ≡ true

head_limits : (entry : Entry) → head_holds entry ≡ true → HeadHolds entry
head_limits entry h =
    let user = and_parts (nat_le 1 entry.session && nat_le entry.session 16 && nat_le 1 entry.line && nat_le entry.line 1_000_000) (is_name entry.user) h in
    let most = and_parts (nat_le 1 entry.session && nat_le entry.session 16 && nat_le 1 entry.line) (nat_le entry.line 1_000_000) user.0 in
    let least = and_parts (nat_le 1 entry.session && nat_le entry.session 16) (nat_le 1 entry.line) most.0 in
    let session = and_parts (nat_le 1 entry.session) (nat_le entry.session 16) least.0 in
    record {
      session = (let e = session.1 in let is : entry.session ≤ 16 = grind (arith, nat_tests) in is);
      line = (let e = most.1 in let is : entry.line ≤ 1_000_000 = grind (arith, nat_tests) in is);
      user = user.1;
    }

entry_of_line : (number : ℕ) (entry : Entry) → number < 2 ^ 64 → is_sound_entry entry ≡ true → list_all (list_all is_of_line) (entry_lines number entry) ≡ true
unfolding entry_line change_words
entry_of_line number entry big h =
    let p = and_parts (head_holds entry) (is_sound_change entry.change) h in
    let head = head_limits entry p.0 in
    let session = head.session in
    let line = head.line in
    let change = seen_of_short (words_of_command (command_for entry.change)) (change_short entry.change p.1).short in
    and_true
    (words_of_line (decimal number ∷ decimal entry.session ∷ decimal entry.line ∷ entry.user ∷ words_of_command (command_for entry.change))
    (and_true (number_seen number big) (and_true (number_seen entry.session (omega arith)) (and_true (number_seen entry.line (omega arith)) (and_true (name_seen entry.user head.user) change)))))
    (behind_of_line entry.change p.1)

all_lines : (xs ys : List (List ℕ)) → list_all (list_all is_of_line) xs ≡ true → list_all (list_all is_of_line) ys ≡ true → list_all (list_all is_of_line) (xs ++ ys) ≡ true
all_lines [] ys h k = k
all_lines (x ∷ xs) ys h k = let p = and_parts (list_all is_of_line x) (list_all (list_all is_of_line) xs) h in and_true p.0 (all_lines xs ys p.1 k)

pub entries_of_line : (number : ℕ) (entries : List Entry) → number + length entries ≤ 2 ^ 64 → list_all is_sound_entry entries ≡ true → list_all (list_all is_of_line) (entries_lines number entries) ≡ true
entries_of_line number [] few h = refl
entries_of_line number (entry ∷ more) few h =
    let p = and_parts (is_sound_entry entry) (list_all is_sound_entry more) h in
    all_lines (entry_lines number entry) (entries_lines (number + 1) more) (entry_of_line number entry (omega arith) p.0) (entries_of_line (number + 1) more (omega arith) p.1)

-- the rows of a LOAD --------------------------------------------------------------------------------------------------------------

abbrev loaded : Entry → List ℕ → List (Key × Record) → Entry
loaded entry scenario rows = record entry { change = changes.Load scenario rows }

abbrev whole_place : List Entry → ℕ → Entry → Place
whole_place entries records entry = record { entries = entries ++ entry ∷ []; records = records; begun = None }

go_on : (frame : Frame) (place next : Place) (number : ℕ) (line : List ℕ) (lines : List (List ℕ)) → continued frame place line ≡ Some next → place_behind frame place number (line ∷ lines) ≡ place_behind frame next (number + 1) lines
unfolding place_behind
go_on frame place next number line lines goes = ap (λ o. told number o >>= (λ n. place_behind frame n (number + 1) lines)) goes

kept_whole : (entries : List Entry) (records : ℕ) (entry : Entry) → kept entries records (record { entry = entry; left = 0 }) ≡ whole_place entries records entry
unfolding kept
kept_whole entries records entry = refl

row_goes : (frame : Frame) (entries : List Entry) (records : ℕ) (entry : Entry) (scenario : List ℕ) (rows : List (Key × Record)) (left : ℕ) (row : Key × Record) → is_sound_row row.0 row.1 ≡ true → row_is_of frame.version row.1 ≡ true
    → continued frame (kept entries records (record { entry = loaded entry scenario rows; left = suc left })) (row_line row) ≡ Some (kept entries records (record { entry = loaded entry scenario (rows ++ row ∷ []); left = left }))
unfolding continued behind_row
row_goes frame entries records entry scenario rows left row sound own =
    let begun : Begun = record { entry = loaded entry scenario rows; left = suc left } in
    let one : suc left - 1 ≡ left = omega arith in
    ap (λ place. continued frame place (row_line row)) (kept_waits entries records (loaded entry scenario rows) left)
    ∙ ap (λ o. begins.◌>>=◌ o (λ r. Some (kept entries records (with_row begun r)))) (row_read frame.version row.0 row.1 sound own)
    ∙ ap (λ n. Some (kept entries records (record { entry = loaded entry scenario (rows ++ row ∷ []); left = n }))) one

rows_go : (frame : Frame) (entries : List Entry) (records : ℕ) (entry : Entry) (scenario : List ℕ) (front back : List (Key × Record)) (number : ℕ) (more : List (List ℕ)) → are_sound_rows back ≡ true → list_all (λ row. row_is_of frame.version row.1) back ≡ true
    → place_behind frame (kept entries records (record { entry = loaded entry scenario front; left = length back })) number (map row_line back ++ more)
    ≡ place_behind frame (whole_place entries records (loaded entry scenario (front ++ back))) (number + length (map row_line back)) more
rows_go frame entries records entry scenario front [] number more sound own =
    let all : number ≡ number + 0 = omega arith in
    ap (λ place. place_behind frame place number more) (kept_whole entries records (loaded entry scenario front))
    ∙ ap (λ rows. place_behind frame (whole_place entries records (loaded entry scenario rows)) number more) (sym (append-nil front))
    ∙ ap (λ n. place_behind frame (whole_place entries records (loaded entry scenario (front ++ []))) n more) all
rows_go frame entries records entry scenario front (row ∷ back) number more sound own =
    let p = and_parts (is_sound_row row.0 row.1) (are_sound_rows back) sound in
    let q = and_parts (row_is_of frame.version row.1) (list_all (λ r. row_is_of frame.version r.1) back) own in
    let lines = map row_line back ++ more in
    let all : (number + 1) + length (map row_line back) ≡ number + length (map row_line (row ∷ back)) = omega arith in
    go_on frame (kept entries records (record { entry = loaded entry scenario front; left = suc (length back) })) (kept entries records (record { entry = loaded entry scenario (front ++ row ∷ []); left = length back })) number (row_line row) lines
    (row_goes frame entries records entry scenario front (length back) row p.0 q.0)
    ∙ rows_go frame entries records entry scenario (front ++ row ∷ []) back (number + 1) more p.1 q.1
    ∙ ap (λ rows. place_behind frame (whole_place entries records (loaded entry scenario rows)) ((number + 1) + length (map row_line back)) more) (append_assoc front (row ∷ []) back)
    ∙ ap (λ n. place_behind frame (whole_place entries records (loaded entry scenario (front ++ row ∷ back))) n more) all

-- entries -----------------------------------------------------------------------------------------------------------------------

-- a place behind whole entries
abbrev pub behind_entries : List Entry → ℕ → Place
behind_entries entries records = record { entries = entries; records = records; begun = None }

entry_goes : (frame : Frame) (entries : List Entry) (records : ℕ) (entry : Entry) → frame.first + length entries < 2 ^ 64 → length entries < frame.most → records + records_of (begun_with entry) ≤ 4_000_000 → is_sound_entry entry ≡ true → change_is_of frame.version entry.change ≡ true
    → continued frame (behind_entries entries records) (entry_line (frame.first + length entries) entry) ≡ Some (kept entries (records + records_of (begun_with entry)) (begun_with entry))
unfolding continued behind_entry_line
entry_goes frame entries records entry big few limit sound own =
    let place = behind_entries entries records in
    let number = frame.first + length entries in
    let total = records + records_of (begun_with entry) in
    let room : has_room frame place total ≡ true = and_true (let t : nat_lt (length entries) frame.most ≡ true = grind (arith, nat_tests) in t) (le_true total 4_000_000 limit) in
    ap (λ o. begins.◌>>=◌ o (λ begun. where_so (has_room frame place (records + records_of begun)) (kept entries (records + records_of begun) begun))) (begun_read frame.version number entry big sound own)
    ∙ ap (λ b. where_so b (kept entries total (begun_with entry))) room

records_all : (change : Change) → record_count (without_rows change) + row_count change ≡ record_count change
records_all (changes.Load scenario rows) = omega arith
records_all (changes.Put scenario key value) = omega arith
records_all (changes.Del scenario key) = omega arith
records_all (changes.Branch parent child) = omega arith
records_all (changes.Share scenario) = omega arith
records_all (changes.Update scenario) = omega arith
records_all (changes.Commit scenario) = omega arith
records_all (changes.Drop scenario) = omega arith

behind_goes : (frame : Frame) (entries : List Entry) (records : ℕ) (entry : Entry) (change : Change) (number : ℕ) (more : List (List ℕ)) → is_sound_change change ≡ true → change_is_of frame.version change ≡ true
    → place_behind frame (kept entries records (record { entry = record entry { change = without_rows change }; left = row_count change })) number (row_lines change ++ more)
    ≡ place_behind frame (whole_place entries records (record entry { change = change })) (number + length (row_lines change)) more
behind_goes frame entries records entry (changes.Load scenario rows) number more sound own =
    let p = and_parts (is_name scenario) (nat_le 1 (length rows) && nat_le (length rows) 1_000 && are_sound_rows rows) sound in
    let q = and_parts (nat_le 1 (length rows) && nat_le (length rows) 1_000) (are_sound_rows rows) p.1 in
    rows_go frame entries records entry scenario [] rows number more q.1 own
behind_goes frame entries records entry change number more sound own =
    let all : number ≡ number + 0 = omega arith in
    ap (λ place. place_behind frame place number more) (kept_whole entries records (record entry { change = change }))
    ∙ ap (λ n. place_behind frame (whole_place entries records (record entry { change = change })) n more) all

one_entry : (frame : Frame) (entries : List Entry) (records : ℕ) (entry : Entry) (number : ℕ) (more : List (List ℕ)) → frame.first + length entries < 2 ^ 64 → length entries < frame.most → records + record_count entry.change ≤ 4_000_000 → is_sound_entry entry ≡ true → change_is_of frame.version entry.change ≡ true
    → place_behind frame (behind_entries entries records) number (entry_lines (frame.first + length entries) entry ++ more)
    ≡ place_behind frame (behind_entries (entries ++ entry ∷ []) (records + record_count entry.change)) (number + length (entry_lines (frame.first + length entries) entry)) more
one_entry frame entries records entry number more big few limit sound own =
    let p = and_parts (head_holds entry) (is_sound_change entry.change) sound in
    let same : records_of (begun_with entry) ≡ record_count entry.change = records_all entry.change in
    let total = records + records_of (begun_with entry) in
    let all : (number + 1) + length (row_lines entry.change) ≡ number + length (entry_lines (frame.first + length entries) entry) = omega arith in
    go_on frame (behind_entries entries records) (kept entries total (begun_with entry)) number (entry_line (frame.first + length entries) entry) (row_lines entry.change ++ more)
    (entry_goes frame entries records entry big few (omega arith) sound own)
    ∙ behind_goes frame entries total entry entry.change (number + 1) more p.1 own
    ∙ (λ i. place_behind frame (behind_entries (entries ++ entry ∷ []) (records + same i)) (all i) more)

pub all_entries : (frame : Frame) (entries : List Entry) (records : ℕ) (ahead : List Entry) (number : ℕ) (more : List (List ℕ)) → frame.first + frame.most ≤ 2 ^ 64 → length entries + length ahead ≤ frame.most → records + record_counts ahead ≤ 4_000_000 → list_all is_sound_entry ahead ≡ true → are_of frame.version ahead ≡ true
    → place_behind frame (behind_entries entries records) number (entries_lines (frame.first + length entries) ahead ++ more)
    ≡ place_behind frame (behind_entries (entries ++ ahead) (records + record_counts ahead)) (number + length (entries_lines (frame.first + length entries) ahead)) more
all_entries frame entries records [] number more big few limit sound own =
    let none : records ≡ records + record_counts [] = let zero_count : record_counts [] ≡ 0 = refl in omega arith in
    let all : number ≡ number + 0 = omega arith in
    ap (λ es. place_behind frame (behind_entries es records) number more) (sym (append-nil entries))
    ∙ (λ i. place_behind frame (behind_entries (entries ++ []) (none i)) (all i) more)
all_entries frame entries records (entry ∷ ahead) number more big few limit sound own =
    let p = and_parts (is_sound_entry entry) (list_all is_sound_entry ahead) sound in
    let q = and_parts (change_is_of frame.version entry.change) (are_of frame.version ahead) own in
    let at = frame.first + length entries in
    let count : record_counts (entry ∷ ahead) ≡ record_count entry.change + record_counts ahead = sum_by-cons (λ e. record_count e.change) entry ahead in
    let long : length (entries ++ entry ∷ []) ≡ length entries + 1 = length-append entries (entry ∷ []) in
    let next : frame.first + length (entries ++ entry ∷ []) ≡ at + 1 = omega arith in
    let lines : entry_lines at entry ++ (entries_lines (at + 1) ahead ++ more) ≡ entries_lines at (entry ∷ ahead) ++ more = sym (append_assoc (entry_lines at entry) (entries_lines (at + 1) ahead) more) in
    let total : (records + record_count entry.change) + record_counts ahead ≡ records + record_counts (entry ∷ ahead) = omega arith in
    let all : (number + length (entry_lines at entry)) + length (entries_lines (at + 1) ahead) ≡ number + length (entries_lines at (entry ∷ ahead)) = omega (arith, length-append (entry_lines at entry) (entries_lines (at + 1) ahead)) in
    let rest = all_entries frame (entries ++ entry ∷ []) (records + record_count entry.change) ahead (number + length (entry_lines at entry)) more big (omega arith) (omega arith) p.1 q.1 in
    ap (place_behind frame (behind_entries entries records) number) (sym lines)
    ∙ one_entry frame entries records entry number (entries_lines (at + 1) ahead ++ more) (omega arith) (omega arith) (omega arith) p.0 q.0
    ∙ subst (λ n. place_behind frame (behind_entries (entries ++ entry ∷ []) (records + record_count entry.change)) (number + length (entry_lines at entry)) (entries_lines n ahead ++ more) ≡ place_behind frame (behind_entries ((entries ++ entry ∷ []) ++ ahead) ((records + record_count entry.change) + record_counts ahead)) ((number + length (entry_lines at entry)) + length (entries_lines n ahead)) more) next rest
    ∙ ap (λ es. place_behind frame (behind_entries es ((records + record_count entry.change) + record_counts ahead)) ((number + length (entry_lines at entry)) + length (entries_lines (at + 1) ahead)) more) (append_assoc entries (entry ∷ []) ahead)
    ∙ (λ i. place_behind frame (behind_entries (entries ++ entry ∷ ahead) (total i)) (all i) more)

no_lines : (frame : Frame) (place : Place) (number : ℕ) → place_behind frame place number [] ≡ Ok place
unfolding place_behind
no_lines frame place number = refl

-- what is spelled as entries is read
pub entries_again : (frame : Frame) (number : ℕ) (entries : List Entry) → frame.first + frame.most ≤ 2 ^ 64 → AreRead frame entries → entries_from frame nothing number (parts_of (entries_text frame.first entries)) ≡ Ok entries
unfolding entries_from parts_of
entries_again frame number entries big h =
    let few = h.few in
    let records = h.records in
    let at : frame.first + 0 ≡ frame.first = omega arith in
    let lines = entries_lines frame.first entries in
    let fit : list_all (list_all is_of_line) lines ≡ true = entries_of_line frame.first entries (omega arith) h.sound in
    let parts : parts_of (entries_text frame.first entries) ≡ (lines ++ [], []) = ap parts_of (sym (entries_lines_text frame.first entries) ∙ sym (append-nil (flat_map ended lines))) ∙ parts_lines lines [] fit in
    let goes : place_behind frame nothing number (lines ++ []) ≡ place_behind frame (behind_entries entries (0 + record_counts entries)) (number + length lines) [] =
    subst (λ n. place_behind frame nothing number (entries_lines n entries ++ []) ≡ place_behind frame (behind_entries entries (0 + record_counts entries)) (number + length (entries_lines n entries)) []) at
    (all_entries frame [] 0 entries number [] big (omega arith) (omega arith) h.sound h.rows) in
    ap (entries_from frame nothing number) parts
    ∙ ap (λ (r : At). r >>= (λ behind. told (number + length (lines ++ [])) (finished behind []))) (goes ∙ no_lines frame (behind_entries entries (0 + record_counts entries)) (number + length lines))
