-- Journals are read from their texts, and from no others.
use Rattle.std.proofs.Common.{◌≡◌, ℕ, zero, suc, ◌+◌, ◌^◌, ◌≤◌, Bool, true, false, cond, nat_eq, nat_lt, List, [], ◌∷◌, ◌++◌, length, Some, None, Result, Ok, Err, inl, inr, refl, ap, ◌∙◌, arith, append_assoc}
use Rattle.std.specs.Prelude.{IfOk}
use Rattle.std.specs.List.{list_all, flat_map}
use Rattle.std.specs.Cmp.Lexicographic.{pointwise, bytes_decides}
use Rattle.std.proofs.lemmas.Bool.{and_parts}
use Rattle.std.proofs.lemmas.Bool.Decides.{nat_tests}
use Rattle.plan_schema.specs.declared.key.Record.{Record}
use Rattle.plan_schema.specs.declared.change.Change.{Change}
use Rattle.plan_schema.specs.declared.change.Change.TheVariants as changes
use Rattle.plan_schema.specs.declared.change.Entry.{Entry}
use Rattle.plan_schema.specs.declared.key.Key.{Key}
use Rattle.plan_schema.specs.Sound.{is_sound_entry}
use Rattle.plan_schema.specs.declared.limits.TheConstants.{BYTE_LIMIT}
use Rattle.row_text.specs.Row.{◌>>=◌}
use Rattle.row_text.proofs.Fields.{and_true, bind_ok}
use Rattle.command_words.specs.Replies.{ended}
use Rattle.scenario_rules.specs.Journal.{AreSound}
use Rattle.plan_journal.specs.Entries.{entries_text, journal_text}
use Rattle.plan_journal.specs.Cuts.{parts_of}
use Rattle.plan_journal.specs.Versions.{head_of, text_in, version_of, row_is_of, change_is_of, are_of}
use Rattle.plan_journal.specs.Places.{nothing}
use Rattle.plan_journal.specs.Reading.{told, entries_from, journal_frame, journal_in, journal_of, in_form, journal_read}
use Rattle.plan_journal.specs.Held.{Held}
use Rattle.plan_journal.specs.Told.{Tells}
use Rattle.plan_journal.specs.Laws.{IsJournal, IsTextOf, JournalIsReadAgain, JournalIsReadAlone, LargeIsToldFirst}
use Rattle.plan_journal.specs.declared.fault.JournalFault.{JournalFault}
use Rattle.plan_journal.specs.declared.fault.JournalFault.TheVariants.{Form, Large}
use Rattle.plan_journal.specs.declared.frame.Version.{Version}
use Rattle.plan_journal.specs.declared.frame.Version.TheVariants.{One, Two}
use Rattle.plan_journal.proofs.Pieces.{line_before, joined}
use Rattle.plan_journal.proofs.JournalTold.{small_read, large_read}
use Rattle.plan_journal.proofs.PlaceTexts.{told_ok, entries_alone}
use Rattle.plan_journal.proofs.TextsAgain.{parts_line, entries_again}

-- sound entries ---------------------------------------------------------------------------------------------------------------

pub sound_at : (entries : List Entry) → list_all is_sound_entry entries ≡ true → AreSound entries
sound_at [] h k = tt
sound_at (entry ∷ more) h zero = (and_parts (is_sound_entry entry) (list_all is_sound_entry more) h).0
sound_at (entry ∷ more) h (suc k) = sound_at more (and_parts (is_sound_entry entry) (list_all is_sound_entry more) h).1 k

pub all_sound : (entries : List Entry) → AreSound entries → list_all is_sound_entry entries ≡ true
all_sound [] h = refl
all_sound (entry ∷ more) h = and_true (h zero) (all_sound more (λ k. h (suc k)))

-- the second version may have all rows
two_rows : (rows : List (Key × Record)) → list_all (λ row. row_is_of Two row.1) rows ≡ true
two_rows [] = refl
two_rows (row ∷ rows) = two_rows rows

two_change : (change : Change) → change_is_of Two change ≡ true
two_change (changes.Load scenario rows) = two_rows rows
two_change (changes.Put scenario key value) = refl
two_change _ = refl

pub are_two : (entries : List Entry) → are_of Two entries ≡ true
are_two [] = refl
are_two (entry ∷ more) = and_true (two_change entry.change) (are_two more)

-- texts in versions ------------------------------------------------------------------------------------------------------------

pub head_again : (version : Version) → version_of (head_of version) ≡ Some version
head_again One = refl
head_again Two = refl

pub head_alone : (line : List ℕ) (version : Version) → version_of line ≡ Some version → line ≡ head_of version
head_alone line version h = by_tests (pointwise nat_eq line (head_of Two)) (pointwise nat_eq line (head_of One)) refl refl h
  where
    same : (v w : Version) → Some v ≡ Some w → v ≡ w
    same v w e = cc

    by_tests : (two one : Bool) → pointwise nat_eq line (head_of Two) ≡ two → pointwise nat_eq line (head_of One) ≡ one → cond two (Some Two) (cond one (Some One) None) ≡ Some version → line ≡ head_of version
    by_tests true one e f k = (bytes_decides line (head_of Two)).0 e ∙ ap head_of (same Two version k)
    by_tests false true e f k = (bytes_decides line (head_of One)).0 f ∙ ap head_of (same One version k)
    by_tests false false e f k = cc

-- the versions of a text
pub record IsIn (text : List ℕ) (entries : List Entry) : Type 0 where
  pub version : Version
  pub rows : are_of version entries ≡ true
  pub is : text ≡ text_in version entries

pub in_version : (text : List ℕ) (entries : List Entry) → IsTextOf text entries → IsIn text entries
unfolding journal_text
in_version text entries (inl is) = record { version = Two; rows = are_two entries; is = is }
in_version text entries (inr both) = record { version = One; rows = both.1; is = both.0 }

pub of_version : (version : Version) (text : List ℕ) (entries : List Entry) → are_of version entries ≡ true → text ≡ text_in version entries → IsTextOf text entries
unfolding journal_text
of_version Two text entries rows is = inl is
of_version One text entries rows is = inr (is, rows)

pub frame_fits : (version : Version) → (journal_frame version).first + (journal_frame version).most ≤ 2 ^ 64
frame_fits version = omega arith

pub parts_of_text : (version : Version) (entries : List Entry) → parts_of (text_in version entries) ≡ line_before (head_of version) (parts_of (entries_text 1 entries))
parts_of_text version entries = ap parts_of (append_assoc (head_of version) (10 ∷ []) (entries_text 1 entries)) ∙ by_version version
  where
    by_version : (v : Version) → parts_of (head_of v ++ 10 ∷ entries_text 1 entries) ≡ line_before (head_of v) (parts_of (entries_text 1 entries))
    by_version One = parts_line (head_of One) (entries_text 1 entries) refl
    by_version Two = parts_line (head_of Two) (entries_text 1 entries) refl

pub journal_again : (text : List ℕ) (entries : List Entry) → IsJournal entries → IsTextOf text entries → journal_of text ≡ Ok entries
unfolding journal_of
journal_again text entries journal spelled =
    let own = in_version text entries spelled in
    let parts : parts_of text ≡ line_before (head_of own.version) (parts_of (entries_text 1 entries)) = ap parts_of own.is ∙ parts_of_text own.version entries in
    ap (λ (p : List (List ℕ) × List ℕ). journal_in p.0 p.1) parts
    ∙ ap (λ o. told 1 o >>= (λ version. entries_from (journal_frame version) nothing 2 (parts_of (entries_text 1 entries)))) (head_again own.version)
    ∙ entries_again (journal_frame own.version) 2 entries (frame_fits own.version) (record { sound = all_sound entries journal.sound; rows = own.rows; few = journal.few; records = journal.records })

pub journal_alone : (text : List ℕ) (entries : List Entry) → journal_of text ≡ Ok entries → IsJournal entries × IsTextOf text entries
unfolding journal_of
journal_alone text entries h = by_lines (parts_of text).0 (parts_of text).1 (joined text) h
  where
    by_lines : (lines : List (List ℕ)) (last : List ℕ) → text ≡ flat_map ended lines ++ last → journal_in lines last ≡ Ok entries → IsJournal entries × IsTextOf text entries
    by_lines [] last is e = cc
    by_lines (head ∷ lines) last is e =
        let a = bind_ok (told 1 (version_of head)) _ entries e in
        let version = a.0 in
        let first = head_alone head version (told_ok 1 (version_of head) version a.1) in
        let read = entries_alone (journal_frame version) 2 lines last entries a.2 in
        let text_is : text ≡ text_in version entries = is ∙ append_assoc (ended head) (flat_map ended lines) last ∙ (λ i. ended (first i) ++ read.1 i) in
        (record { sound = sound_at entries read.0.sound; few = read.0.few; records = read.0.records }, of_version version text entries read.0.rows text_is)

-- all bytes -----------------------------------------------------------------------------------------------------------------------

formed : (read : Result (List Entry) ℕ) (entries : List Entry) → in_form read ≡ Ok entries → read ≡ Ok entries
formed (Ok found) entries h = cc
formed (Err number) entries h = cc

pub form_is : (read : Result (List Entry) ℕ) (number : ℕ) → in_form read ≡ Err (Form number) → read ≡ Err number
form_is (Ok found) number h = cc
form_is (Err n) number h = let same : n ≡ number = cc in ap Err same

pub read_alone : JournalIsReadAlone
unfolding journal_read
read_alone text entries h = by_size (nat_lt BYTE_LIMIT (length text)) refl h
  where
    by_size : (b : Bool) → nat_lt BYTE_LIMIT (length text) ≡ b → cond b (Err Large) (in_form (journal_of text)) ≡ Ok entries → (length text ≤ BYTE_LIMIT) × IsJournal entries × IsTextOf text entries
    by_size true is e = cc
    by_size false is e =
        let few : length text ≤ BYTE_LIMIT = grind (arith, nat_tests) in
        let both = journal_alone text entries (formed (journal_of text) entries e) in
        (few, both.0, both.1)

pub form_alone : (text : List ℕ) (number : ℕ) → journal_read text ≡ Err (Form number) → journal_of text ≡ Err number
unfolding journal_read
form_alone text number h = by_size (nat_lt BYTE_LIMIT (length text)) h
  where
    by_size : (b : Bool) → cond b (Err Large) (in_form (journal_of text)) ≡ Err (Form number) → journal_of text ≡ Err number
    by_size true e = cc
    by_size false e = form_is (journal_of text) number e

pub read_again : JournalIsReadAgain
read_again text entries small journal spelled = small_read text small ∙ ap in_form (journal_again text entries journal spelled)

pub large_first : LargeIsToldFirst
large_first text big = large_read text big

-- what is told to be entries is a journal
pub told_journal : (text : List ℕ) (result : Result Held JournalFault) → Tells (journal_of text) result → IfOk result (λ journal. IsJournal journal.entries)
told_journal text (Ok journal) h = (journal_alone text journal.entries h).0
told_journal text (Err fault) h = tt
