-- The line that a fault of form names is the first one that no journal goes on with.
use Rattle.std.proofs.Common.{◌≡◌, ℕ, zero, suc, ◌+◌, ◌-◌, ◌≤◌, Bool, true, false, not, cond, List, [], ◌∷◌, ◌++◌, length, take, Option, Some, None, Result, Ok, Err, inl, inr, refl, sym, ap, ◌∙◌, subst, arith, length-append, append_assoc, append-nil}
use Rattle.std.specs.Prelude.{◌==◌, ◌⊎◌}
use Rattle.std.specs.List.{list_all, flat_map}
use Rattle.std.proofs.lemmas.Bool.{and_parts}
use Rattle.plan_schema.specs.declared.change.Entry.{Entry}
use Rattle.row_text.specs.Row.{◌>>=◌}
use Rattle.row_text.proofs.Fields.{and_true}
use Rattle.command_words.specs.Replies.{ended}
use Rattle.plan_journal.specs.Entries.{journal_text}
use Rattle.plan_journal.specs.Cuts.{onto_line, with_byte, parts_of}
use Rattle.plan_journal.specs.Versions.{head_of, text_in, version_of}
use Rattle.plan_journal.specs.Places.{Place, nothing, continued}
use Rattle.plan_journal.specs.Reading.{told, place_behind, finished, entries_from, journal_frame, journal_in, journal_of}
use Rattle.plan_journal.specs.Laws.{IsJournal, NoJournalGoesOn, BeginsJournal, FaultyLineIsFirst}
use Rattle.plan_journal.specs.declared.frame.Frame.{Frame}
use Rattle.plan_journal.specs.declared.frame.Version.{Version}
use Rattle.plan_journal.proofs.PlaceTexts.{lines_on, nothing_reached}
use Rattle.plan_journal.proofs.TextsAgain.{is_of_line, parts_lines}
use Rattle.plan_journal.proofs.JournalLaws.{sound_at, head_alone, of_version, journal_again, form_alone}
use Rattle.plan_journal.proofs.Completions.{completes}

-- the faulty line -----------------------------------------------------------------------------------------------------------------

-- lines up to a faulty one
record StopsAt (frame : Frame) (place : Place) (number : ℕ) (lines : List (List ℕ)) (faulty : ℕ) : Type 0 where
  pub before : List (List ℕ)
  pub line : List ℕ
  pub rest : List (List ℕ)
  pub is : lines ≡ before ++ line ∷ rest
  pub count : number + length before ≡ faulty
  pub at : Place
  pub goes : place_behind frame place number before ≡ Ok at
  pub stops : continued frame at line ≡ None

same_err : {A : Type 0} (m n : ℕ) → (let r : Result A ℕ = Err m in r) ≡ Err n → m ≡ n
same_err m n h = cc

stops_at : (frame : Frame) (place : Place) (number : ℕ) (lines : List (List ℕ)) (faulty : ℕ) → place_behind frame place number lines ≡ Err faulty → StopsAt frame place number lines faulty
unfolding place_behind
stops_at frame place number [] faulty h = cc
stops_at frame place number (line ∷ lines) faulty h = by_next (λ next. stops_at frame next (number + 1) lines faulty) (continued frame place line) refl h
  where
    by_next : ((next : Place) → place_behind frame next (number + 1) lines ≡ Err faulty → StopsAt frame next (number + 1) lines faulty) → (o : Option Place) → continued frame place line ≡ o
        → (told number o >>= (λ next. place_behind frame next (number + 1) lines)) ≡ Err faulty → StopsAt frame place number (line ∷ lines) faulty
    by_next again None is e =
        let same : number ≡ faulty = same_err {A = Place} number faulty e in
        record { before = []; line = line; rest = lines; is = refl; count = omega arith; at = place; goes = refl; stops = is }
    by_next again (Some next) is e =
        let more = again next e in
        let count = more.count in
        record {
          before = line ∷ more.before;
          line = more.line;
          rest = more.rest;
          is = ap (λ ls. line ∷ ls) more.is;
          count = omega arith;
          at = more.at;
          goes = ap (λ o. told number o >>= (λ n. place_behind frame n (number + 1) more.before)) is ∙ more.goes;
          stops = more.stops;
        }

-- whatever stands behind it
stops_before : (frame : Frame) (place at : Place) (number : ℕ) (before : List (List ℕ)) (line : List ℕ) (more : List (List ℕ)) → place_behind frame place number before ≡ Ok at → continued frame at line ≡ None → place_behind frame place number (before ++ line ∷ more) ≡ Err (number + length before)
unfolding place_behind
stops_before frame place at number [] line more goes stops =
    let same : place ≡ at = same_place place at goes in
    let count : number ≡ number + 0 = omega arith in
    ap (λ o. told number o >>= (λ next. place_behind frame next (number + 1) more)) (ap (λ p. continued frame p line) same ∙ stops) ∙ ap Err count
  where
    same_place : (p q : Place) → (let r : Result Place ℕ = Ok p in r) ≡ Ok q → p ≡ q
    same_place p q e = cc
stops_before frame place at number (first ∷ before) line more goes stops = by_next (λ next. stops_before frame next at (number + 1) before line more) (continued frame place first) refl goes
  where
    by_next : ((next : Place) → place_behind frame next (number + 1) before ≡ Ok at → continued frame at line ≡ None → place_behind frame next (number + 1) (before ++ line ∷ more) ≡ Err ((number + 1) + length before)) → (o : Option Place) → continued frame place first ≡ o
        → (told number o >>= (λ next. place_behind frame next (number + 1) before)) ≡ Ok at → (told number (continued frame place first) >>= (λ next. place_behind frame next (number + 1) (before ++ line ∷ more))) ≡ Err (number + length (first ∷ before))
    by_next again None is e = cc
    by_next again (Some next) is e =
        let count : (number + 1) + length before ≡ number + length (first ∷ before) = omega arith in
        ap (λ o. told number o >>= (λ n. place_behind frame n (number + 1) (before ++ line ∷ more))) is ∙ again next e stops ∙ ap Err count

-- the fault of entries: a line that nothing goes on with, or the end
data Fault (frame : Frame) (number : ℕ) (lines : List (List ℕ)) (faulty : ℕ) : Type 0 where
  InLine : StopsAt frame nothing number lines faulty → Fault frame number lines faulty
  AtEnd : (at : Place) → place_behind frame nothing number lines ≡ Ok at → number + length lines ≡ faulty → Fault frame number lines faulty

fault_of : (frame : Frame) (number : ℕ) (lines : List (List ℕ)) (last : List ℕ) (faulty : ℕ) → entries_from frame nothing number (lines, last) ≡ Err faulty → Fault frame number lines faulty
unfolding entries_from
fault_of frame number lines last faulty h = by_place (place_behind frame nothing number lines) refl h
  where
    by_end : (o : Option (List Entry)) → told (number + length lines) o ≡ Err faulty → number + length lines ≡ faulty
    by_end None e = same_err {A = List Entry} (number + length lines) faulty e
    by_end (Some entries) e = cc

    by_place : (r : Result Place ℕ) → place_behind frame nothing number lines ≡ r → (r >>= (λ behind. told (number + length lines) (finished behind last))) ≡ Err faulty → Fault frame number lines faulty
    by_place (Ok at) is e = AtEnd at is (by_end (finished at last) e)
    by_place (Err n) is e = InLine (stops_at frame nothing number lines faulty (is ∙ ap Err (same_err {A = List Entry} n faulty e)))

-- the text's own lines ----------------------------------------------------------------------------------------------------------

-- no line of a text has a line feed
parts_fit : (text : List ℕ) → list_all (list_all is_of_line) (parts_of text).0 ≡ true
unfolding parts_of
parts_fit [] = refl
parts_fit (byte ∷ text) = by_test (parts_fit text) (byte == 10) refl
  where
    onto : (lines : List (List ℕ)) (last : List ℕ) → is_of_line byte ≡ true → list_all (list_all is_of_line) lines ≡ true → list_all (list_all is_of_line) (onto_line byte lines last).0 ≡ true
    onto [] last e h = refl
    onto (line ∷ lines) last e h = let p = and_parts (list_all is_of_line line) (list_all (list_all is_of_line) lines) h in and_true (and_true e p.0) p.1

    by_test : list_all (list_all is_of_line) (parts_of text).0 ≡ true → (t : Bool) → (byte == 10) ≡ t → list_all (list_all is_of_line) (with_byte byte (parts_of text)).0 ≡ true
    by_test again true is =
        subst (λ (q : List (List ℕ) × List ℕ). list_all (list_all is_of_line) q.0 ≡ true)
        (sym (ap (λ t. cond t ([] ∷ (parts_of text).0, (parts_of text).1) (onto_line byte (parts_of text).0 (parts_of text).1)) is)) again
    by_test again false is =
        subst (λ (q : List (List ℕ) × List ℕ). list_all (list_all is_of_line) q.0 ≡ true)
        (sym (ap (λ t. cond t ([] ∷ (parts_of text).0, (parts_of text).1) (onto_line byte (parts_of text).0 (parts_of text).1)) is))
        (onto (parts_of text).0 (parts_of text).1 (ap not is) again)

take_fits : (n : ℕ) (lines : List (List ℕ)) → list_all (list_all is_of_line) lines ≡ true → list_all (list_all is_of_line) (take n lines) ≡ true
take_fits zero lines h = refl
take_fits (suc n) [] h = refl
take_fits (suc n) (line ∷ lines) h = let p = and_parts (list_all is_of_line line) (list_all (list_all is_of_line) lines) h in and_true p.0 (take_fits n lines p.1)

take_before : (before : List (List ℕ)) (line : List ℕ) (rest : List (List ℕ)) → take (suc (length before)) (before ++ line ∷ rest) ≡ before ++ line ∷ []
take_before [] line rest = refl
take_before (first ∷ before) line rest = ap (λ ls. first ∷ ls) (take_before before line rest)

take_only : (before : List (List ℕ)) (rest : List (List ℕ)) → take (length before) (before ++ rest) ≡ before
take_only [] rest = refl
take_only (first ∷ before) rest = ap (λ ls. first ∷ ls) (take_only before rest)

-- no journal goes on with the faulty line -----------------------------------------------------------------------------------------

head_err : {A : Type 0} (o : Option Version) (f : Version → Result A ℕ) (faulty : ℕ) → (told 1 o >>= f) ≡ Err faulty → ((o ≡ None) × (1 ≡ faulty)) ⊎ ((version : Version) × (o ≡ Some version) × (f version ≡ Err faulty))
head_err None f faulty h = inl (refl, same_err 1 faulty h)
head_err (Some version) f faulty h = inr (version, refl, h)

entries_stop : (frame : Frame) (number : ℕ) (lines : List (List ℕ)) (last : List ℕ) (faulty : ℕ) → place_behind frame nothing number lines ≡ Err faulty → entries_from frame nothing number (lines, last) ≡ Err faulty
unfolding entries_from
entries_stop frame number lines last faulty h = ap (λ (r : Result Place ℕ). r >>= (λ behind. told (number + length lines) (finished behind last))) h

journal_stops : (lines : List (List ℕ)) (last : List ℕ) (faulty : ℕ) → journal_in lines last ≡ Err faulty → faulty ≤ length lines → (more : List (List ℕ)) (end : List ℕ) → journal_in (take faulty lines ++ more) end ≡ Err faulty
journal_stops [] last faulty h few more end = let one : 1 ≡ faulty = same_err {A = List Entry} 1 faulty h in absurd (omega arith)
journal_stops (head ∷ lines) last faulty h few more end = by_head (head_err (version_of head) _ faulty h)
  where
    by_fault : (version : Version) → version_of head ≡ Some version → Fault (journal_frame version) 2 lines faulty → journal_in (take faulty (head ∷ lines) ++ more) end ≡ Err faulty
    by_fault version is (AtEnd at goes count) = absurd (omega arith)
    by_fault version is (InLine stop) =
        let counted = stop.count in
        let two : faulty ≡ suc (suc (length stop.before)) = omega arith in
        let shown : take faulty (head ∷ lines) ≡ head ∷ (stop.before ++ stop.line ∷ []) = ap (λ n. take n (head ∷ lines)) two ∙ ap (λ ls. head ∷ ls) (ap (take (suc (length stop.before))) stop.is ∙ take_before stop.before stop.line stop.rest) in
        let all : take faulty (head ∷ lines) ++ more ≡ head ∷ (stop.before ++ stop.line ∷ more) = ap (λ ls. ls ++ more) shown ∙ ap (λ ls. head ∷ ls) (append_assoc stop.before (stop.line ∷ []) more) in
        ap (λ ls. journal_in ls end) all
        ∙ ap (λ o. told 1 o >>= (λ v. entries_from (journal_frame v) nothing 2 (stop.before ++ stop.line ∷ more, end))) is
        ∙ entries_stop (journal_frame version) 2 (stop.before ++ stop.line ∷ more) end faulty (stops_before (journal_frame version) nothing stop.at 2 stop.before stop.line more stop.goes stop.stops ∙ ap Err counted)

    by_head : ((version_of head ≡ None) × (1 ≡ faulty)) ⊎ ((version : Version) × (version_of head ≡ Some version) × (entries_from (journal_frame version) nothing 2 (lines, last) ≡ Err faulty)) → journal_in (take faulty (head ∷ lines) ++ more) end ≡ Err faulty
    by_head (inl both) =
        ap (λ n. journal_in (take n (head ∷ lines) ++ more) end) (sym both.1)
        ∙ ap (λ o. told 1 o >>= (λ v. entries_from (journal_frame v) nothing 2 (take 0 lines ++ more, end))) both.0 ∙ ap Err both.1
    by_head (inr known) = by_fault known.0 known.1 (fault_of (journal_frame known.0) 2 lines last faulty known.2)

pub none_goes_on : NoJournalGoesOn
unfolding journal_of
none_goes_on text number h few entries journal more sound spelled begins =
    let faulty : journal_in (parts_of text).0 (parts_of text).1 ≡ Err number = form_alone text number h in
    let fit = take_fits number (parts_of text).0 (parts_fit text) in
    let parts = ap parts_of begins ∙ parts_lines (take number (parts_of text).0) more fit in
    let stopped : journal_of journal ≡ Err number = ap (λ (p : List (List ℕ) × List ℕ). journal_in p.0 p.1) parts ∙ journal_stops (parts_of text).0 (parts_of text).1 number faulty few (parts_of more).0 (parts_of more).1 in
    let read : journal_of journal ≡ Ok entries = journal_again journal entries sound spelled in
    cc

-- the lines before it begin a journal -----------------------------------------------------------------------------------------------

no_entries : IsJournal []
no_entries = record { sound = sound_at [] refl; few = omega arith; records = omega arith }

-- a journal begins with nothing
begins_nothing : BeginsJournal []
begins_nothing = record { entries = []; journal = journal_text []; more = journal_text []; sound = no_entries; spelled = inl refl; begins = refl }

-- a journal begins with a first line and lines that are read
begins_lines : (version : Version) (head : List ℕ) (before : List (List ℕ)) (at : Place) → version_of head ≡ Some version → place_behind (journal_frame version) nothing 2 before ≡ Ok at → BeginsJournal (flat_map ended (head ∷ before))
begins_lines version head before at is goes =
    let frame = journal_frame version in
    let reached = lines_on frame nothing at 2 before (nothing_reached frame) goes in
    let whole = completes frame at reached.0 in
    let first = head_alone head version is in
    let text : text_in version whole.entries ≡ flat_map ended (head ∷ before) ++ whole.more =
    ap (λ t. ended (head_of version) ++ t) (whole.begins ∙ ap (λ t. t ++ whole.more) reached.1)
    ∙ ap (λ h. ended h ++ (flat_map ended before ++ whole.more)) (sym first)
    ∙ sym (append_assoc (ended head) (flat_map ended before) whole.more) in
    record {
      entries = whole.entries;
      journal = text_in version whole.entries;
      more = whole.more;
      sound = record { sound = sound_at whole.entries whole.read.sound; few = whole.read.few; records = whole.read.records };
      spelled = of_version version (text_in version whole.entries) whole.entries whole.read.rows refl;
      begins = text;
    }

abbrev IsFirst : List (List ℕ) → ℕ → Type 0
IsFirst lines faulty = (1 ≤ faulty) × (faulty ≤ length lines + 1) × BeginsJournal (flat_map ended (take (faulty - 1) lines))

one_first : (lines : List (List ℕ)) (faulty : ℕ) → 1 ≡ faulty → IsFirst lines faulty
one_first lines faulty is =
    let none : 0 ≡ faulty - 1 = omega arith in
    (omega arith, omega arith, subst (λ n. BeginsJournal (flat_map ended (take n lines))) none begins_nothing)

is_first : (lines : List (List ℕ)) (last : List ℕ) (faulty : ℕ) → journal_in lines last ≡ Err faulty → IsFirst lines faulty
is_first [] last faulty h = one_first [] faulty (same_err {A = List Entry} 1 faulty h)
is_first (head ∷ lines) last faulty h = by_head (head_err (version_of head) _ faulty h)
  where
    by_before : (version : Version) (before rest : List (List ℕ)) (at : Place) → version_of head ≡ Some version → lines ≡ before ++ rest → 2 + length before ≡ faulty → place_behind (journal_frame version) nothing 2 before ≡ Ok at → BeginsJournal (flat_map ended (take (faulty - 1) (head ∷ lines)))
    by_before version before rest at is parts count goes =
        let one : suc (length before) ≡ faulty - 1 = omega arith in
        let shown : head ∷ before ≡ take (faulty - 1) (head ∷ lines) = ap (λ ls. head ∷ ls) (sym (take_only before rest) ∙ ap (take (length before)) (sym parts)) ∙ ap (λ n. take n (head ∷ lines)) one in
        subst (λ ls. BeginsJournal (flat_map ended ls)) shown (begins_lines version head before at is goes)

    by_fault : (version : Version) → version_of head ≡ Some version → Fault (journal_frame version) 2 lines faulty → IsFirst (head ∷ lines) faulty
    by_fault version is (AtEnd at goes count) = (omega arith, omega arith, by_before version lines [] at is (sym (append-nil lines)) count goes)
    by_fault version is (InLine stop) =
        let counted = stop.count in
        let long : length lines ≡ length stop.before + suc (length stop.rest) = ap length stop.is ∙ length-append stop.before (stop.line ∷ stop.rest) in
        (omega arith, omega arith, by_before version stop.before (stop.line ∷ stop.rest) stop.at is stop.is counted stop.goes)

    by_head : ((version_of head ≡ None) × (1 ≡ faulty)) ⊎ ((version : Version) × (version_of head ≡ Some version) × (entries_from (journal_frame version) nothing 2 (lines, last) ≡ Err faulty)) → IsFirst (head ∷ lines) faulty
    by_head (inl both) = one_first (head ∷ lines) faulty both.1
    by_head (inr known) = by_fault known.0 known.1 (fault_of (journal_frame known.0) 2 lines last faulty known.2)

pub faulty_is_first : FaultyLineIsFirst
unfolding journal_of
faulty_is_first text number h =
    let faulty : journal_in (parts_of text).0 (parts_of text).1 ≡ Err number = form_alone text number h in
    is_first (parts_of text).0 (parts_of text).1 number faulty
