-- What is read of a text so far is spelled so.
use Rattle.std.proofs.Common.{◌≡◌, ℕ, zero, suc, ◌+◌, ◌-◌, ◌<◌, ◌≤◌, Bool, true, false, ◌&&◌, cond, nat_le, nat_lt, List, [], ◌∷◌, ◌++◌, length, map, Option, Some, None, Result, Ok, refl, sym, ap, ◌∙◌, subst, arith, length-append, append_assoc, append-nil}
use Rattle.std.specs.Prelude.{◌==◌, is_none}
use Rattle.std.specs.List.{list_all, flat_map}
use Rattle.std.proofs.lemmas.Bool.{and_parts, eqb-true}
use Rattle.std.proofs.lemmas.List.Sums.{sum_by-append}
use Rattle.std.proofs.lemmas.Bool.Decides.{nat_tests}
use Rattle.std.proofs.lemmas.List.{map-append}
use Rattle.std.proofs.lemmas.Grind.{flat_map-append}
use Rattle.plan_schema.specs.declared.key.Key.{Key}
use Rattle.plan_schema.specs.declared.key.Record.{Record}
use Rattle.plan_schema.specs.declared.change.Change.{Change}
use Rattle.plan_schema.specs.declared.change.Change.TheVariants as changes
use Rattle.plan_schema.specs.declared.change.Entry.{Entry}
use Rattle.plan_schema.specs.Name.{is_name}
use Rattle.plan_schema.specs.Sound.{is_sound_row, are_sound_rows, is_sound_change, is_sound_entry}
use Rattle.row_text.specs.Spelling.{words_text, row_text}
use Rattle.row_text.proofs.Fields.{and_true, bind_ok}
use Rattle.command_words.specs.Replies.{ended}
use Rattle.command_words.specs.Spelling.{words_of_command}
use Rattle.command_words.specs.declared.command.Command.{Command}
use Rattle.command_words.specs.declared.command.Command.TheVariants as commands
use Rattle.scenario_rules.specs.Refused.{record_count, record_counts}
use Rattle.plan_journal.specs.Entries.{command_for, change_words, entry_line, rows_text, rows_behind, entry_text, entries_text}
use Rattle.plan_journal.specs.Versions.{row_is_of, change_is_of, are_of}
use Rattle.plan_journal.specs.Begun.{if_read, spelled, row_in, change_with_row, records_of, asked_of, change_in, number_before, behind_number, begun_of}
use Rattle.plan_journal.specs.Places.{Place, nothing, kept, has_room, behind_entry_line, behind_row, behind_line, continued}
use Rattle.plan_journal.specs.Reading.{told, place_behind, finished, entries_from}
use Rattle.plan_journal.specs.declared.begun.Begun.{Begun}
use Rattle.plan_journal.specs.declared.frame.Frame.{Frame}
use Rattle.plan_journal.specs.declared.frame.Version.{Version}
use Rattle.plan_journal.proofs.EntryLines.{bind_some, so_some, same_some, command_with, change_holds, row_takes}
use Rattle.plan_journal.proofs.BegunLines.{line_with, head_holds, IsBegun, begun_takes}
use Rattle.plan_journal.proofs.Texts.{entries_both}

-- lists -----------------------------------------------------------------------------------------------------------------------

pub all_both : {A : Type 0} (p : A → Bool) (xs ys : List A) → list_all p xs ≡ true → list_all p ys ≡ true → list_all p (xs ++ ys) ≡ true
all_both p [] ys h k = k
all_both p (x ∷ xs) ys h k = let parts = and_parts (p x) (list_all p xs) h in and_true parts.0 (all_both p xs ys parts.1 k)

pub counts_both : (first more : List Entry) → record_counts (first ++ more) ≡ record_counts first + record_counts more
counts_both first more = sum_by-append (λ entry. record_count entry.change) first more

pub rows_both : (rows : List (Key × Record)) (row : Key × Record) → rows_text (rows ++ row ∷ []) ≡ rows_text rows ++ ended (row_text row.0 row.1)
rows_both rows row =
    let text : Key × Record → List ℕ = λ r. row_text r.0 r.1 in
    ap (flat_map ended) (map-append text rows (row ∷ [])) ∙ flat_map-append ended (map text rows) (text row ∷ [])
    ∙ ap (λ t. flat_map ended (map text rows) ++ t) (append-nil (ended (text row)))

pub not_zero : (n : ℕ) → (suc n == 0) ≡ true → ⊥
not_zero n h = let is : suc n ≡ 0 = eqb-true (suc n) 0 h in omega arith

pub above_zero : (n : ℕ) → (suc n == 0) ≡ false
above_zero n = grind (arith, nat_tests)

-- changes that are read row by row ----------------------------------------------------------------------------------------------

record IsWhole (version : Version) (change : Change) : Type 0 where
  pub sound : is_sound_change change ≡ true
  pub rows : change_is_of version change ≡ true
  pub command : command_with 0 change ≡ command_for change

-- no rows are to come any more
whole_holds : (version : Version) (change : Change) → change_holds version 0 change ≡ true → IsWhole version change
whole_holds version (changes.Load scenario rows) h =
    let p = and_parts (is_name scenario && (nat_le 1 (length rows + 0) && nat_le (length rows + 0) 1_000) && are_sound_rows rows) (list_all (λ row. row_is_of version row.1) rows) h in
    let q = and_parts (is_name scenario && (nat_le 1 (length rows + 0) && nat_le (length rows + 0) 1_000)) (are_sound_rows rows) p.0 in
    let r = and_parts (is_name scenario) (nat_le 1 (length rows + 0) && nat_le (length rows + 0) 1_000) q.0 in
    let all : length rows + 0 ≡ length rows = omega arith in
    record {
      sound = and_true r.0 (and_true (subst (λ n. (nat_le 1 n && nat_le n 1_000) ≡ true) all r.1) q.1);
      rows = p.1;
      command = ap (commands.Load scenario) all;
    }
whole_holds version change h =
    let p = and_parts ((0 == 0) && is_sound_change change) (change_is_of version change) h in
    let q = and_parts (0 == 0) (is_sound_change change) p.0 in
    record { sound = q.1; rows = p.1; command = refl }

record IsOneRowOn (version : Version) (change : Change) (left : ℕ) (row : Key × Record) : Type 0 where
  pub holds : change_holds version left (change_with_row change row) ≡ true
  pub command : command_with left (change_with_row change row) ≡ command_with (suc left) change
  pub text : rows_behind (change_with_row change row) ≡ rows_behind change ++ ended (row_text row.0 row.1)
  pub records : record_count (change_with_row change row) + left ≡ record_count change + suc left

row_holds : (version : Version) (change : Change) (left : ℕ) (row : Key × Record) → change_holds version (suc left) change ≡ true → is_sound_row row.0 row.1 ≡ true → row_is_of version row.1 ≡ true → IsOneRowOn version change left row
row_holds version (changes.Load scenario rows) left row h sound own =
    let p = and_parts (is_name scenario && (nat_le 1 (length rows + suc left) && nat_le (length rows + suc left) 1_000) && are_sound_rows rows) (list_all (λ r. row_is_of version r.1) rows) h in
    let q = and_parts (is_name scenario && (nat_le 1 (length rows + suc left) && nat_le (length rows + suc left) 1_000)) (are_sound_rows rows) p.0 in
    let r = and_parts (is_name scenario) (nat_le 1 (length rows + suc left) && nat_le (length rows + suc left) 1_000) q.0 in
    let all : length (rows ++ row ∷ []) + left ≡ length rows + suc left = omega (arith, length-append rows (row ∷ [])) in
    record {
      holds =
          and_true (and_true (and_true r.0 (subst (λ n. (nat_le 1 n && nat_le n 1_000) ≡ true) (sym all) r.1)) (all_both (λ x. is_sound_row x.0 x.1) rows (row ∷ []) q.1 (and_true sound refl)))
          (all_both (λ x. row_is_of version x.1) rows (row ∷ []) p.1 (and_true own refl));
      command = ap (commands.Load scenario) all;
      text = rows_both rows row;
      records = all;
    }
row_holds version change left row h sound own =
    let p = and_parts ((suc left == 0) && is_sound_change change) (change_is_of version change) h in
    let q = and_parts (suc left == 0) (is_sound_change change) p.0 in
    absurd (not_zero left q.0)

-- a line gives no rows
asked_rows : (command : Command) (asked : Change × ℕ) → asked_of command ≡ Some asked → rows_behind asked.0 ≡ []
asked_rows (commands.Put scenario key value) asked h = ap (λ (a : Change × ℕ). rows_behind a.0) (sym (same_some (changes.Put scenario key value, 0) asked h))
asked_rows (commands.Del scenario key) asked h = ap (λ (a : Change × ℕ). rows_behind a.0) (sym (same_some (changes.Del scenario key, 0) asked h))
asked_rows (commands.Load scenario count) asked h = ap (λ (a : Change × ℕ). rows_behind a.0) (sym (same_some (changes.Load scenario [], count) asked h))
asked_rows (commands.Branch parent child) asked h = ap (λ (a : Change × ℕ). rows_behind a.0) (sym (same_some (changes.Branch parent child, 0) asked h))
asked_rows (commands.Share scenario) asked h = ap (λ (a : Change × ℕ). rows_behind a.0) (sym (same_some (changes.Share scenario, 0) asked h))
asked_rows (commands.Update scenario) asked h = ap (λ (a : Change × ℕ). rows_behind a.0) (sym (same_some (changes.Update scenario, 0) asked h))
asked_rows (commands.Commit scenario) asked h = ap (λ (a : Change × ℕ). rows_behind a.0) (sym (same_some (changes.Commit scenario, 0) asked h))
asked_rows (commands.Drop scenario) asked h = ap (λ (a : Change × ℕ). rows_behind a.0) (sym (same_some (changes.Drop scenario, 0) asked h))
asked_rows _ asked h = cc

begun_rows : (version : Version) (number : ℕ) (line : List ℕ) (begun : Begun) → begun_of version number line ≡ Some begun → rows_behind begun.entry.change ≡ []
unfolding begun_of change_in
begun_rows version number line begun h =
    let a = bind_some (behind_number number line) _ begun h in
    let b = bind_some (number_before 1 16 a.0) _ begun a.2 in
    let c = bind_some (number_before 1 1_000_000 b.0.1) _ begun b.2 in
    let d = bind_some (Rattle.plan_journal.specs.Cuts.cut_at 32 c.0.1) _ begun c.2 in
    let e = bind_some (Rattle.plan_schema.specs.Name.name_of d.0.0) _ begun d.2 in
    let f = bind_some (change_in version d.0.1) _ begun e.2 in
    let s = bind_some (spelled d.0.1) _ f.0 f.1 in
    let r = bind_some (if_read (Rattle.command_words.specs.Commands.command_of s.0)) _ f.0 s.2 in
    let o = bind_some (asked_of r.0) _ f.0 r.2 in
    let own = so_some (Rattle.plan_journal.specs.Versions.line_is_of version o.0.0) o.0 f.0 o.2 in
    let entry : Entry = record { session = b.0.0; line = c.0.0; user = e.0; change = f.0.0 } in
    let made : Begun = record { entry = entry; left = f.0.1 } in
    ap (λ (x : Begun). rows_behind x.entry.change) (sym (same_some made begun f.2)) ∙ ap (λ (x : Change × ℕ). rows_behind x.0) (sym own.1) ∙ asked_rows r.0 o.0 o.1

-- places ------------------------------------------------------------------------------------------------------------------------

-- the text of an entry that waits for rows
abbrev pub begun_text : ℕ → Entry → ℕ → List ℕ
begun_text number entry left = ended (line_with number entry left) ++ rows_behind entry.change

abbrev pub waiting_text : ℕ → Option Begun → List ℕ
waiting_text number None = []
waiting_text number (Some begun) = begun_text number begun.entry begun.left

-- the text before a place
abbrev pub place_text : Frame → Place → List ℕ
place_text frame place = entries_text frame.first place.entries ++ waiting_text (frame.first + length place.entries) place.begun

abbrev pub waiting_count : Option Begun → ℕ
waiting_count None = 0
waiting_count (Some begun) = 1

abbrev pub waiting_records : Option Begun → ℕ
waiting_records None = 0
waiting_records (Some begun) = records_of begun

abbrev pub WaitingHolds : Version → Option Begun → Type 0
WaitingHolds version None = Unit {0}
WaitingHolds version (Some begun) = IsBegun version begun × (1 ≤ begun.left)

-- a place that reading comes to
pub record IsReached (frame : Frame) (place : Place) : Type 0 where
  pub sound : list_all is_sound_entry place.entries ≡ true
  pub rows : are_of frame.version place.entries ≡ true
  pub few : length place.entries + waiting_count place.begun ≤ frame.most
  pub records : place.records ≡ record_counts place.entries + waiting_records place.begun
  pub limit : place.records ≤ 4_000_000
  pub begun : WaitingHolds frame.version place.begun

abbrev IsReachedBy : Frame → Place → List ℕ → Type 0
IsReachedBy frame place text = IsReached frame place × (place_text frame place ≡ text)

-- an entry waits for rows
pub kept_waits : (entries : List Entry) (records : ℕ) (entry : Entry) (left : ℕ) → kept entries records (record { entry = entry; left = suc left }) ≡ record { entries = entries; records = records; begun = Some (record { entry = entry; left = suc left }) }
unfolding kept
kept_waits entries records entry left =
    let begun : Begun = record { entry = entry; left = suc left } in
    let whole : Place = record { entries = entries ++ entry ∷ []; records = records; begun = None } in
    let waits : Place = record { entries = entries; records = records; begun = Some begun } in
    ap (λ t. cond t whole waits) (above_zero left)

kept_holds : (frame : Frame) (entries : List Entry) (records : ℕ) (entry : Entry) (left : ℕ) → list_all is_sound_entry entries ≡ true → are_of frame.version entries ≡ true → length entries < frame.most
    → records ≡ record_counts entries + (record_count entry.change + left) → records ≤ 4_000_000 → head_holds entry ≡ true → change_holds frame.version left entry.change ≡ true
    → IsReachedBy frame (kept entries records (record { entry = entry; left = left })) (entries_text frame.first entries ++ begun_text (frame.first + length entries) entry left)
unfolding kept entry_text entry_line change_words
kept_holds frame entries records entry zero sound rows few count limit head change =
    let whole = whole_holds frame.version entry.change change in
    let number = frame.first + length entries in (
      record {
        sound = all_both is_sound_entry entries (entry ∷ []) sound (and_true (and_true head whole.sound) refl);
        rows = all_both (λ e. change_is_of frame.version e.change) entries (entry ∷ []) rows (and_true whole.rows refl);
        few = omega (arith, length-append entries (entry ∷ []));
        records = (let one : record_counts (entry ∷ []) ≡ 0 + record_count entry.change = refl in omega (arith, counts_both entries (entry ∷ [])));
        limit = limit;
        begun = tt;
      },
      append-nil (entries_text frame.first (entries ++ entry ∷ [])) ∙ entries_both frame.first entries (entry ∷ [])
          ∙ ap (λ t. entries_text frame.first entries ++ t) (append-nil (entry_text number entry))
          ∙ ap (λ command. entries_text frame.first entries ++ (ended (words_text (Rattle.std.specs.Prelude.decimal number ∷ Rattle.std.specs.Prelude.decimal entry.session ∷ Rattle.std.specs.Prelude.decimal entry.line ∷ entry.user ∷ words_of_command command)) ++ rows_behind entry.change)) (sym whole.command),
    )
kept_holds frame entries records entry (suc left) sound rows few count limit head change =
    subst (λ place. IsReachedBy frame place (entries_text frame.first entries ++ begun_text (frame.first + length entries) entry (suc left))) (sym (kept_waits entries records entry left)) (
      record {
        sound = sound;
        rows = rows;
        few = omega arith;
        records = count;
        limit = limit;
        begun = (record { head = head; change = change }, omega arith);
      },
      refl,
    )

entry_line_on : (frame : Frame) (place next : Place) (line : List ℕ) → IsReached frame place → place.begun ≡ None → behind_entry_line frame place line ≡ Some next → IsReachedBy frame next (place_text frame place ++ ended line)
unfolding behind_entry_line
entry_line_on frame place next line h none goes =
    let number = frame.first + length place.entries in
    let a = bind_some (begun_of frame.version number line) _ next goes in
    let begun = a.0 in
    let total = place.records + records_of begun in
    let room = so_some (has_room frame place total) (kept place.entries total begun) next a.2 in
    let tests = and_parts (nat_lt (length place.entries) frame.most) (nat_le total 4_000_000) room.0 in
    let few : length place.entries < frame.most = let e = tests.0 in grind (arith, nat_tests) in
    let limit : total ≤ 4_000_000 = let e = tests.1 in grind (arith, nat_tests) in
    let takes = begun_takes frame.version number line begun a.1 in
    let alone : waiting_records place.begun ≡ 0 = ap waiting_records none in
    let count : total ≡ record_counts place.entries + (record_count begun.entry.change + begun.left) = let own = h.records in omega arith in
    let done = kept_holds frame place.entries total begun.entry begun.left h.sound h.rows few count limit takes.sound.head takes.sound.change in
    let text : entries_text frame.first place.entries ++ begun_text number begun.entry begun.left ≡ place_text frame place ++ ended line =
    ap (λ t. entries_text frame.first place.entries ++ (ended (line_with number begun.entry begun.left) ++ t)) (begun_rows frame.version number line begun a.1)
    ∙ ap (λ t. entries_text frame.first place.entries ++ t) (append-nil (ended (line_with number begun.entry begun.left)) ∙ ap ended (sym takes.is))
    ∙ ap (λ t. t ++ ended line) (sym (ap (λ o. entries_text frame.first place.entries ++ waiting_text number o) none ∙ append-nil (entries_text frame.first place.entries))) in
    subst (λ p. IsReachedBy frame p (place_text frame place ++ ended line)) room.1 (done.0, done.1 ∙ text)

row_line_on : (frame : Frame) (place next : Place) (begun : Begun) (line : List ℕ) → IsReached frame place → place.begun ≡ Some begun → behind_row frame place begun line ≡ Some next → IsReachedBy frame next (place_text frame place ++ ended line)
unfolding behind_row
row_line_on frame place next begun line h some goes =
    let number = frame.first + length place.entries in
    let a = bind_some (row_in frame.version line) _ next goes in
    let row = a.0 in
    let takes = row_takes frame.version line row a.1 in
    let waits : WaitingHolds frame.version (Some begun) = subst (WaitingHolds frame.version) some h.begun in
    let least = waits.1 in
    let left = begun.left - 1 in
    let one : begun.left ≡ suc left = omega arith in
    let on = row_holds frame.version begun.entry.change left row (subst (λ n. change_holds frame.version n begun.entry.change ≡ true) one waits.0.change) takes.sound takes.allowed in
    let entry : Entry = record begun.entry { change = change_with_row begun.entry.change row } in
    let counted : waiting_count place.begun ≡ 1 = ap waiting_count some in
    let recorded : waiting_records place.begun ≡ record_count begun.entry.change + begun.left = ap waiting_records some in
    let count : place.records ≡ record_counts place.entries + (record_count entry.change + left) = let own = h.records in let same = on.records in omega arith in
    let few : length place.entries < frame.most = let own = h.few in omega arith in
    let done = kept_holds frame place.entries place.records entry left h.sound h.rows few count h.limit waits.0.head on.holds in
    let head : line_with number entry left ≡ line_with number begun.entry begun.left =
    ap (λ command. words_text (Rattle.std.specs.Prelude.decimal number ∷ Rattle.std.specs.Prelude.decimal begun.entry.session ∷ Rattle.std.specs.Prelude.decimal begun.entry.line ∷ begun.entry.user ∷ words_of_command command))
    (on.command ∙ ap (λ n. command_with n begun.entry.change) (sym one)) in
    let text : entries_text frame.first place.entries ++ begun_text number entry left ≡ place_text frame place ++ ended line =
    (λ i. entries_text frame.first place.entries ++ (ended (head i) ++ on.text i))
    ∙ ap (λ t. entries_text frame.first place.entries ++ (ended (line_with number begun.entry begun.left) ++ (rows_behind begun.entry.change ++ ended t))) (sym takes.is)
    ∙ ap (λ t. entries_text frame.first place.entries ++ t) (sym (append_assoc (ended (line_with number begun.entry begun.left)) (rows_behind begun.entry.change) (ended line)))
    ∙ sym (append_assoc (entries_text frame.first place.entries) (begun_text number begun.entry begun.left) (ended line))
    ∙ ap (λ o. (entries_text frame.first place.entries ++ waiting_text number o) ++ ended line) (sym some) in
    subst (λ p. IsReachedBy frame p (place_text frame place ++ ended line)) (same_some _ next a.2) (done.0, done.1 ∙ text)

pub line_on : (frame : Frame) (place next : Place) (line : List ℕ) → IsReached frame place → continued frame place line ≡ Some next → IsReachedBy frame next (place_text frame place ++ ended line)
unfolding continued
line_on frame place next line h goes = by_begun place.begun refl goes
  where
    by_begun : (o : Option Begun) → place.begun ≡ o → behind_line frame place o line ≡ Some next → IsReachedBy frame next (place_text frame place ++ ended line)
    by_begun None is e = entry_line_on frame place next line h is e
    by_begun (Some begun) is e = row_line_on frame place next begun line h is e

-- whole texts -----------------------------------------------------------------------------------------------------------------

pub told_ok : {A : Type 0} (number : ℕ) (o : Option A) (x : A) → told number o ≡ Ok x → o ≡ Some x
told_ok number None x h = cc
told_ok number (Some y) x h = cc

pub lines_on : (frame : Frame) (place next : Place) (number : ℕ) (lines : List (List ℕ)) → IsReached frame place → place_behind frame place number lines ≡ Ok next → IsReachedBy frame next (place_text frame place ++ flat_map ended lines)
unfolding place_behind
lines_on frame place next number [] h goes =
    let at : place ≡ next = let e = goes in same_ok place next e in
    subst (λ p. IsReachedBy frame p (place_text frame place ++ [])) at (h, sym (append-nil (place_text frame place)))
  where
    same_ok : (p q : Place) → (let r : Result Place ℕ = Ok p in r) ≡ Ok q → p ≡ q
    same_ok p q e = cc
lines_on frame place next number (line ∷ lines) h goes =
    let a = bind_ok (told number (continued frame place line)) _ next goes in
    let one = line_on frame place a.0 line h (told_ok number (continued frame place line) a.0 a.1) in
    let more = lines_on frame a.0 next (number + 1) lines one.0 a.2 in
    (more.0, more.1 ∙ ap (λ t. t ++ flat_map ended lines) one.1 ∙ append_assoc (place_text frame place) (ended line) (flat_map ended lines))

-- entries that reading gives
pub record AreRead (frame : Frame) (entries : List Entry) : Type 0 where
  pub sound : list_all is_sound_entry entries ≡ true
  pub rows : are_of frame.version entries ≡ true
  pub few : length entries ≤ frame.most
  pub records : record_counts entries ≤ 4_000_000

finished_is : (place : Place) (last : List ℕ) (entries : List Entry) → finished place last ≡ Some entries → (place.begun ≡ None) × (last ≡ []) × (place.entries ≡ entries)
finished_is place last entries h = by_test (is_none place.begun && (length last == 0)) refl h
  where
    no_begun : (o : Option Begun) → is_none o ≡ true → o ≡ None
    no_begun None e = refl
    no_begun (Some begun) e = cc

    no_last : (l : List ℕ) → (length l == 0) ≡ true → l ≡ []
    no_last [] e = refl
    no_last (x ∷ l) e = absurd (not_zero (length l) e)

    by_test : (b : Bool) → (is_none place.begun && (length last == 0)) ≡ b → cond b (Some place.entries) None ≡ Some entries → (place.begun ≡ None) × (last ≡ []) × (place.entries ≡ entries)
    by_test true is e = let p = and_parts (is_none place.begun) (length last == 0) is in (no_begun place.begun p.0, no_last last p.1, same_some place.entries entries e)
    by_test false is e = cc

pub nothing_reached : (frame : Frame) → IsReached frame nothing
nothing_reached frame = record { sound = refl; rows = refl; few = omega arith; records = refl; limit = omega arith; begun = tt }

-- what is read of lines is spelled so
pub entries_alone : (frame : Frame) (number : ℕ) (lines : List (List ℕ)) (last : List ℕ) (entries : List Entry) → entries_from frame nothing number (lines, last) ≡ Ok entries → AreRead frame entries × (flat_map ended lines ++ last ≡ entries_text frame.first entries)
unfolding entries_from
entries_alone frame number lines last entries h =
    let a = bind_ok (place_behind frame nothing number lines) _ entries h in
    let place = a.0 in
    let reached = lines_on frame nothing place number lines (nothing_reached frame) a.1 in
    let done = finished_is place last entries (told_ok (number + length lines) (finished place last) entries a.2) in
    let none : waiting_records place.begun ≡ 0 = ap waiting_records done.0 in
    let few : length place.entries ≤ frame.most = let own = reached.0.few in omega arith in
    let records : record_counts place.entries ≤ 4_000_000 = let own = reached.0.records in let limit = reached.0.limit in omega arith in
    let all : AreRead frame place.entries = record { sound = reached.0.sound; rows = reached.0.rows; few = few; records = records } in
    let spelled : place_text frame place ≡ entries_text frame.first place.entries = ap (λ o. entries_text frame.first place.entries ++ waiting_text (frame.first + length place.entries) o) done.0 ∙ append-nil (entries_text frame.first place.entries) in (
      subst (AreRead frame) done.2 all,
      ap (λ l. flat_map ended lines ++ l) done.1 ∙ append-nil (flat_map ended lines) ∙ sym reached.1 ∙ spelled ∙ ap (entries_text frame.first) done.2,
    )
