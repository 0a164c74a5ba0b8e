-- One entry is read from its text, and from no other.
use Rattle.std.proofs.Common.{◌≡◌, ℕ, ◌+◌, ◌^◌, ◌<◌, ◌≤◌, true, ◌&&◌, nat_le, List, [], ◌∷◌, ◌++◌, length, Option, Some, None, Result, Ok, Err, refl, sym, ap, ◌∙◌, arith, length-append, append-nil}
use Rattle.std.specs.Prelude.{IfSome, MatchOption}
use Rattle.std.specs.List.{list_all}
use Rattle.std.proofs.lemmas.Bool.{and_parts}
use Rattle.std.proofs.lemmas.Bool.Decides.{nat_tests}
use Rattle.plan_schema.specs.declared.change.Change.{Change}
use Rattle.plan_schema.specs.declared.change.Change.TheVariants as changes
use Rattle.plan_schema.specs.declared.change.Entry.{Entry}
use Rattle.plan_schema.specs.Name.{is_name}
use Rattle.plan_schema.specs.Sound.{are_sound_rows, is_sound_change, is_sound_entry}
use Rattle.row_text.proofs.Fields.{and_true}
use Rattle.scenario_rules.specs.Refused.{record_count, record_counts}
use Rattle.plan_journal.specs.Entries.{entry_text, entries_text}
use Rattle.plan_journal.specs.Cuts.{parts_of}
use Rattle.plan_journal.specs.Places.{nothing}
use Rattle.plan_journal.specs.Reading.{entries_from}
use Rattle.plan_journal.specs.declared.frame.Frame.{Frame}
use Rattle.plan_journal.specs.declared.frame.Version.TheVariants.{Two}
use Rattle.plan_journal.proofs.Pieces.{joined}
use Rattle.plan_journal.proofs.BegunLines.{head_holds}
use Rattle.plan_journal.proofs.PlaceTexts.{entries_alone}
use Rattle.plan_journal.proofs.TextsAgain.{entries_again}
use Rattle.plan_journal.proofs.JournalLaws.{are_two}

-- one entry under a number
abbrev pub entry_frame : ℕ → Frame
entry_frame number = record { version = Two; first = number; most = 1 }

abbrev read : ℕ → List ℕ → Result (List Entry) ℕ
read number text = entries_from (entry_frame number) nothing 1 (parts_of text)

few_records : (change : Change) → is_sound_change change ≡ true → record_count change ≤ 1_000
few_records (changes.Put scenario key value) h = omega arith
few_records (changes.Del scenario key) h = omega arith
few_records (changes.Load scenario rows) h =
    let p = and_parts (is_name scenario) (nat_le 1 (length rows) && nat_le (length rows) 1_000 && are_sound_rows rows) h in
    let q = and_parts (nat_le 1 (length rows) && nat_le (length rows) 1_000) (are_sound_rows rows) p.1 in
    let r = and_parts (nat_le 1 (length rows)) (nat_le (length rows) 1_000) q.0 in
    let few : length rows ≤ 1_000 = let e = r.1 in grind (arith, nat_tests) in
    few
few_records _ h = omega arith

pub entry_again : (number : ℕ) (text : List ℕ) (entry : Entry) → number < 2 ^ 64 → is_sound_entry entry ≡ true → text ≡ entry_text number entry → read number text ≡ Ok (entry ∷ [])
entry_again number text entry big sound is =
    let p = and_parts (head_holds entry) (is_sound_change entry.change) sound in
    let few : record_count entry.change ≤ 1_000 = few_records entry.change p.1 in
    let count : record_counts (entry ∷ []) ≡ 0 + record_count entry.change = refl in
    ap (read number) (is ∙ sym (append-nil (entry_text number entry)))
    ∙ entries_again (entry_frame number) 1 (entry ∷ []) (omega arith) (record { sound = and_true sound refl; rows = are_two (entry ∷ []); few = omega arith; records = omega arith })

-- an entry that is the only one
abbrev pub IsEntryOf : ℕ → List ℕ → Entry → Type 0
IsEntryOf number text entry = (is_sound_entry entry ≡ true) × (text ≡ entry_text number entry)

entry_alone : (number : ℕ) (text : List ℕ) (front : List Entry) (entry : Entry) → read number text ≡ Ok (front ++ entry ∷ []) → IsEntryOf number text entry
entry_alone number text front entry h =
    let found = entries_alone (entry_frame number) 1 (parts_of text).0 (parts_of text).1 (front ++ entry ∷ []) h in
    let few = found.0.few in
    by_front front (omega (arith, length-append front (entry ∷ []))) found.0.sound (joined text ∙ found.1)
  where
    by_front : (es : List Entry) → length es ≤ 0 → list_all is_sound_entry (es ++ entry ∷ []) ≡ true → text ≡ entries_text number (es ++ entry ∷ []) → IsEntryOf number text entry
    by_front [] few sound is = ((and_parts (is_sound_entry entry) true sound).0, is ∙ append-nil (entry_text number entry))
    by_front (e ∷ es) few sound is = absurd (omega arith)

abbrev IsLast : List Entry → Option Entry → Type 0
IsLast entries result = MatchOption result (entries ≡ []) (λ entry. (front : List Entry) × (entries ≡ front ++ entry ∷ []))

pub entry_found : (number : ℕ) (text : List ℕ) (entries : List Entry) (result : Option Entry) → read number text ≡ Ok entries → IsLast entries result → IfSome result (IsEntryOf number text)
entry_found number text entries None h last = tt
entry_found number text entries (Some entry) h last = entry_alone number text last.0 entry (h ∙ ap Ok last.1)

pub entry_missed : (number : ℕ) (text : List ℕ) (entries : List Entry) (result : Option Entry) → number < 2 ^ 64 → read number text ≡ Ok entries → IsLast entries result → result ≡ None → (entry : Entry) → is_sound_entry entry ≡ true → text ≡ entry_text number entry → ⊥
entry_missed number text entries None big h last none entry sound is =
    let found : read number text ≡ Ok (entry ∷ []) = entry_again number text entry big sound is in
    let empty : read number text ≡ Ok [] = h ∙ ap Ok last in
    cc
entry_missed number text entries (Some x) big h last none entry sound is = cc

pub entry_refused : (number : ℕ) (text : List ℕ) (line : ℕ) → number < 2 ^ 64 → read number text ≡ Err line → (entry : Entry) → is_sound_entry entry ≡ true → text ≡ entry_text number entry → ⊥
entry_refused number text line big h entry sound is =
    let found : read number text ≡ Ok (entry ∷ []) = entry_again number text entry big sound is in
    cc
