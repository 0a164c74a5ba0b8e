-- What the lines of entries and rows say: what is read is spelled so, and what is spelled so is read.
use Rattle.std.proofs.Common.{◌≡◌, ℕ, ◌+◌, ◌*◌, ◌≤◌, Bool, true, false, ◌&&◌, nat_le, List, [], ◌∷◌, length, Option, Some, None, Result, Ok, Err, refl, sym, ap, ◌∙◌, subst, arith, length-append}
use Rattle.std.specs.Prelude.{◌==◌}
use Rattle.std.specs.List.{list_all}
use Rattle.std.proofs.lemmas.Bool.{and_parts}
use Rattle.std.proofs.lemmas.Bool.Decides.{nat_tests}
use Rattle.plan_schema.specs.declared.key.Key.{Key}
use Rattle.plan_schema.specs.declared.key.Key.TheVariants as keys
use Rattle.plan_schema.specs.declared.key.Record.{Record}
use Rattle.plan_schema.specs.declared.change.Change.{Change}
use Rattle.plan_schema.specs.declared.change.Change.TheVariants as changes
use Rattle.plan_schema.specs.Name.{is_name}
use Rattle.plan_schema.specs.Sound.{is_sound_row, are_sound_rows, is_sound_change}
use Rattle.row_text.specs.Spelling.{spaced, words_text, key_fields, row_fields, row_text}
use Rattle.row_text.proofs.Fields.{and_true, le_true}
use Rattle.row_text.proofs.Rows.{row_alone, row_again}
use Rattle.command_words.specs.Words.{words_of}
use Rattle.command_words.specs.Commands.{command_of, row_of}
use Rattle.command_words.specs.Spelling.{words_of_command, is_sound_command}
use Rattle.command_words.specs.declared.command.Command.{Command}
use Rattle.command_words.specs.declared.command.Command.TheVariants as commands
use Rattle.command_words.proofs.Again.{words_again}
use Rattle.command_words.proofs.Commands.{command_alone}
use Rattle.command_words.proofs.Seen.{is_seen_word, seen_words}
use Rattle.plan_journal.specs.Entries.{command_for}
use Rattle.plan_journal.specs.Cuts.{parts_singly}
use Rattle.plan_journal.specs.Versions.{row_is_of, line_is_of, change_is_of}
use Rattle.plan_journal.specs.Begun.{◌>>=◌, if_read, where_so, may_be_spelled, spelled, row_in, asked_of, change_in}
use Rattle.plan_journal.specs.declared.frame.Version.{Version}
use Rattle.command_words.proofs.ShortWords.{AreShort, is_short_word, row_short, more_short}
use Rattle.plan_journal.proofs.Singly.{singly_spelled, words_singly}

-- steps that may say nothing -------------------------------------------------------------------------------------------------

pub bind_some : {A B : Type 0} (o : Option A) (f : A → Option B) (y : B) → (o >>= f) ≡ Some y → (x : A) × (o ≡ Some x) × (f x ≡ Some y)
bind_some (Some x) f y h = (x, refl, h)
bind_some None f y h = cc

pub so_some : {A : Type 0} (b : Bool) (x y : A) → where_so b x ≡ Some y → (b ≡ true) × (x ≡ y)
so_some true x y h = (refl, cc)
so_some false x y h = cc

pub read_some : {A E : Type 0} (r : Result A E) (x : A) → if_read r ≡ Some x → r ≡ Ok x
read_some (Ok y) x h = cc
read_some (Err fault) x h = cc

pub same_some : {A : Type 0} (x y : A) → Some x ≡ Some y → x ≡ y
same_some x y h = cc

-- words that may be spelled ----------------------------------------------------------------------------------------------------

pub seen_of_short : (words : List (List ℕ)) → list_all is_short_word words ≡ true → list_all is_seen_word words ≡ true
seen_of_short [] h = refl
seen_of_short (word ∷ words) h =
    let p = and_parts (is_short_word word) (list_all is_short_word words) h in
    let q = and_parts (nat_le (length word) 40) (is_seen_word word) p.0 in
    and_true q.1 (seen_of_short words p.1)

spaced_few : (words : List (List ℕ)) → list_all is_short_word words ≡ true → length (spaced words) ≤ 41 * length words
spaced_few [] h = omega arith
spaced_few (word ∷ words) h =
    let p = and_parts (is_short_word word) (list_all is_short_word words) h in
    let q = and_parts (nat_le (length word) 40) (is_seen_word word) p.0 in
    let few : length word ≤ 40 = let e = q.0 in grind (arith, nat_tests) in
    let more : length (spaced words) ≤ 41 * length words = spaced_few words p.1 in
    omega (arith, length-append (32 ∷ word) (spaced words))

pub short_may : (word : List ℕ) (words : List (List ℕ)) → AreShort (word ∷ words) 20 → may_be_spelled (words_text (word ∷ words)) ≡ true
short_may word words h =
    let more : length (spaced (word ∷ words)) ≤ 41 * length (word ∷ words) = spaced_few (word ∷ words) h.short in
    let few : length (word ∷ words) ≤ 20 = h.few in
    let all : length (words_text (word ∷ words)) ≤ 1_024 = omega (arith, length-append word (spaced words), length-append (32 ∷ word) (spaced words)) in
    and_true (le_true (length (words_text (word ∷ words))) 1_024 all) (words_singly word words (seen_of_short (word ∷ words) h.short))

-- rows ------------------------------------------------------------------------------------------------------------------------

-- a row of a line
pub record IsRowOf (version : Version) (line : List ℕ) (row : Key × Record) : Type 0 where
  pub is : line ≡ row_text row.0 row.1
  pub sound : is_sound_row row.0 row.1 ≡ true
  pub allowed : row_is_of version row.1 ≡ true

pub row_takes : (version : Version) (line : List ℕ) (row : Key × Record) → row_in version line ≡ Some row → IsRowOf version line row
unfolding row_in row_of row_text
row_takes version line row h =
    let a = bind_some (spelled line) _ row h in
    let b = bind_some (if_read (row_of a.0)) _ row a.2 in
    let may = so_some (may_be_spelled line) line a.0 a.1 in
    let own = so_some (row_is_of version b.0.1) b.0 row b.2 in
    let single = and_parts (nat_le (length line) 1_024) (parts_singly false line) may.0 in
    let fields = row_alone (words_of a.0) b.0 (read_some (row_of a.0) b.0 b.1) in
    subst (IsRowOf version line) own.1 (record {
      is = sym (singly_spelled line single.1) ∙ ap (λ t. words_text (words_of t)) may.1 ∙ ap words_text fields.0;
      sound = fields.1;
      allowed = own.0;
    })

row_begins : (key : Key) (value : Record) → (word : List ℕ) × (words : List (List ℕ)) × (row_fields key value ≡ word ∷ words)
unfolding row_fields key_fields
row_begins keys.Plan value = (_, _, refl)
row_begins (keys.Cal name) value = (_, _, refl)
row_begins (keys.Holiday name day) value = (_, _, refl)
row_begins (keys.Part name) value = (_, _, refl)
row_begins (keys.Stock part) value = (_, _, refl)
row_begins (keys.Demand part order) value = (_, _, refl)
row_begins (keys.Receipt part order) value = (_, _, refl)
row_begins (keys.Bill parent component) value = (_, _, refl)

row_may : (key : Key) (value : Record) → is_sound_row key value ≡ true → may_be_spelled (row_text key value) ≡ true
unfolding row_text
row_may key value h =
    let begins = row_begins key value in
    let short = more_short (row_fields key value) 7 20 (omega arith) (row_short key value h) in
    subst (λ words. may_be_spelled (words_text words) ≡ true) (sym begins.2) (short_may begins.0 begins.1 (subst (λ words. AreShort words 20) begins.2 short))

pub row_read : (version : Version) (key : Key) (value : Record) → is_sound_row key value ≡ true → row_is_of version value ≡ true → row_in version (row_text key value) ≡ Some (key, value)
unfolding row_in row_of row_text
row_read version key value h own =
    let seen = seen_of_short (row_fields key value) (row_short key value h).short in
    let read : row_of (row_text key value) ≡ Ok (key, value) = ap (λ words. Rattle.row_text.specs.Row.row_of words) (words_again (row_fields key value) (seen_words (row_fields key value) seen)) ∙ row_again key value h in
    ap (λ b. where_so b (row_text key value) >>= (λ text. if_read (row_of text) >>= (λ row. where_so (row_is_of version row.1) row))) (row_may key value h)
    ∙ ap (λ r. if_read r >>= (λ row. where_so (row_is_of version row.1) row)) read ∙ ap (λ b. where_so b (key, value)) own

-- changes ---------------------------------------------------------------------------------------------------------------------

-- the command of a change of which so many rows are still to come
abbrev pub command_with : ℕ → Change → Command
command_with left (changes.Load scenario rows) = commands.Load scenario (length rows + left)
command_with left change = command_for change

-- such a change is sound but for the rows that are still to come
abbrev pub change_holds : Version → ℕ → Change → Bool
change_holds version left (changes.Load scenario rows) =
    is_name scenario && (nat_le 1 (length rows + left) && nat_le (length rows + left) 1_000) && are_sound_rows rows && list_all (λ row. row_is_of version row.1) rows
change_holds version left change = (left == 0) && is_sound_change change && change_is_of version change

abbrev pub IsAskedBy : Version → Command → Change × ℕ → Type 0
IsAskedBy version command asked = (command ≡ command_with asked.1 asked.0) × (change_holds version asked.1 asked.0 ≡ true)

asked_by : (version : Version) (command : Command) (change : Change) (left : ℕ) (asked : Change × ℕ) → Some (change, left) ≡ Some asked → IsAskedBy version command (change, left) → IsAskedBy version command asked
asked_by version command change left asked is h = subst (IsAskedBy version command) (same_some (change, left) asked is) h

pub change_asked : (version : Version) (command : Command) (asked : Change × ℕ) → asked_of command ≡ Some asked → is_sound_command command ≡ true → line_is_of version asked.0 ≡ true → IsAskedBy version command asked
change_asked version (commands.Put scenario key value) asked is h own =
    let same = same_some (changes.Put scenario key value, 0) asked is in
    let allowed : row_is_of version value ≡ true = ap (λ (a : Change × ℕ). line_is_of version a.0) same ∙ own in
    asked_by version _ (changes.Put scenario key value) 0 asked is (refl, and_true (and_true refl h) allowed)
change_asked version (commands.Del scenario key) asked is h own = asked_by version _ (changes.Del scenario key) 0 asked is (refl, and_true (and_true refl h) refl)
change_asked version (commands.Load scenario count) asked is h own =
    let p = and_parts (is_name scenario) (nat_le 1 count && nat_le count 1_000) h in
    let all : count ≡ 0 + count = omega arith in
    asked_by version _ (changes.Load scenario []) count asked is
    (ap (commands.Load scenario) all, and_true (and_true (and_true p.0 (subst (λ n. (nat_le 1 n && nat_le n 1_000) ≡ true) all p.1)) refl) refl)
change_asked version (commands.Branch parent child) asked is h own = asked_by version _ (changes.Branch parent child) 0 asked is (refl, and_true (and_true refl (and_true h refl)) refl)
change_asked version (commands.Share scenario) asked is h own = asked_by version _ (changes.Share scenario) 0 asked is (refl, and_true (and_true refl (and_true h refl)) refl)
change_asked version (commands.Update scenario) asked is h own = asked_by version _ (changes.Update scenario) 0 asked is (refl, and_true (and_true refl (and_true h refl)) refl)
change_asked version (commands.Commit scenario) asked is h own = asked_by version _ (changes.Commit scenario) 0 asked is (refl, and_true (and_true refl (and_true h refl)) refl)
change_asked version (commands.Drop scenario) asked is h own = asked_by version _ (changes.Drop scenario) 0 asked is (refl, and_true (and_true refl (and_true h refl)) refl)
change_asked version _ asked is h own = cc

pub change_takes : (version : Version) (line : List ℕ) (asked : Change × ℕ) → change_in version line ≡ Some asked → (line ≡ words_text (words_of_command (command_with asked.1 asked.0))) × (change_holds version asked.1 asked.0 ≡ true)
unfolding change_in
change_takes version line asked h =
    let a = bind_some (spelled line) _ asked h in
    let b = bind_some (if_read (command_of a.0)) _ asked a.2 in
    let c = bind_some (asked_of b.0) _ asked b.2 in
    let may = so_some (may_be_spelled line) line a.0 a.1 in
    let own = so_some (line_is_of version c.0.0) c.0 asked c.2 in
    let single = and_parts (nat_le (length line) 1_024) (parts_singly false line) may.0 in
    let read = command_alone a.0 b.0 (read_some (command_of a.0) b.0 b.1) in
    let by = change_asked version b.0 asked (c.1 ∙ ap Some own.1) read.1 (subst (λ (x : Change × ℕ). line_is_of version x.0 ≡ true) own.1 own.0) in
    (sym (singly_spelled line single.1) ∙ ap (λ t. words_text (words_of t)) may.1 ∙ ap words_text read.0 ∙ ap (λ command. words_text (words_of_command command)) by.0, by.1)
