-- Each place that reading comes to lies in some journal's text.
use Rattle.std.proofs.Common.{◌≡◌, ℕ, zero, suc, ◌+◌, ◌-◌, true, ◌&&◌, nat_le, List, [], ◌∷◌, ◌++◌, length, map, Option, Some, None, refl, sym, ap, ◌∙◌, subst, arith, length-append, append_assoc, append-nil}
use Rattle.std.specs.Prelude.{◌==◌, codes, decimal}
use Rattle.std.specs.List.{list_all, flat_map}
use Rattle.std.proofs.lemmas.Bool.{and_parts}
use Rattle.std.proofs.lemmas.List.{map-append}
use Rattle.std.proofs.lemmas.Grind.{flat_map-append}
use Rattle.plan_schema.specs.declared.key.Key.{Key}
use Rattle.plan_schema.specs.declared.key.Key.TheVariants as keys
use Rattle.plan_schema.specs.declared.key.Record.{Record}
use Rattle.plan_schema.specs.declared.key.Record.TheVariants as records
use Rattle.plan_schema.specs.declared.change.Change.{Change}
use Rattle.plan_schema.specs.declared.change.Change.TheVariants as changes
use Rattle.plan_schema.specs.declared.change.Entry.{Entry}
use Rattle.plan_schema.specs.Name.{is_name}
use Rattle.plan_schema.specs.Sound.{is_sound_row, are_sound_rows, is_sound_change, is_sound_entry}
use Rattle.row_text.specs.Spelling.{words_text, row_text}
use Rattle.row_text.proofs.Fields.{and_true}
use Rattle.command_words.specs.Replies.{ended}
use Rattle.command_words.specs.Spelling.{words_of_command}
use Rattle.command_words.specs.declared.command.Command.TheVariants as commands
use Rattle.scenario_rules.specs.Refused.{record_count, record_counts}
use Rattle.plan_journal.specs.Entries.{command_for, change_words, entry_line, rows_text, rows_behind, entry_text, entries_text}
use Rattle.plan_journal.specs.Versions.{row_is_of, change_is_of}
use Rattle.plan_journal.specs.Places.{Place}
use Rattle.plan_journal.specs.declared.begun.Begun.{Begun}
use Rattle.plan_journal.specs.declared.frame.Frame.{Frame}
use Rattle.plan_journal.specs.declared.frame.Version.{Version}
use Rattle.plan_journal.specs.declared.frame.Version.TheVariants.{One, Two}
use Rattle.plan_journal.proofs.Texts.{entries_both}
use Rattle.plan_journal.proofs.EntryLines.{command_with, change_holds}
use Rattle.plan_journal.proofs.BegunLines.{line_with, IsBegun}
use Rattle.plan_journal.proofs.PlaceTexts.{all_both, counts_both, not_zero, begun_text, waiting_text, place_text, waiting_count, waiting_records, WaitingHolds, IsReached, AreRead}

-- a row, and many of it
abbrev some_row : Key × Record
some_row = (keys.Stock (codes "A"), records.Stock 0)

abbrev filling : ℕ → List (Key × Record)
filling zero = []
filling (suc n) = some_row ∷ filling n

fill_long : (n : ℕ) → length (filling n) ≡ n
fill_long zero = refl
fill_long (suc n) = ap suc (fill_long n)

fill_sound : (n : ℕ) → are_sound_rows (filling n) ≡ true
unfolding is_name
fill_sound zero = refl
fill_sound (suc n) = and_true refl (fill_sound n)

fill_of : (version : Version) (n : ℕ) → list_all (λ row. row_is_of version row.1) (filling n) ≡ true
fill_of version zero = refl
fill_of One (suc n) = fill_of One n
fill_of Two (suc n) = fill_of Two n

-- a change with all the rows that are to come
abbrev filled : ℕ → Change → Change
filled left (changes.Load scenario rows) = changes.Load scenario (rows ++ filling left)
filled left change = change

record IsFilled (version : Version) (left : ℕ) (change : Change) : Type 0 where
  pub more : List ℕ
  pub sound : is_sound_change (filled left change) ≡ true
  pub rows : change_is_of version (filled left change) ≡ true
  pub command : command_for (filled left change) ≡ command_with left change
  pub text : rows_behind (filled left change) ≡ rows_behind change ++ more
  pub records : record_count (filled left change) ≡ record_count change + left

fills : (version : Version) (left : ℕ) (change : Change) → change_holds version (suc left) change ≡ true → IsFilled version (suc left) change
fills version left (changes.Load scenario rows) h =
    let n = suc left in
    let p = and_parts (is_name scenario && (nat_le 1 (length rows + n) && nat_le (length rows + n) 1_000) && are_sound_rows rows) (list_all (λ row. row_is_of version row.1) rows) h in
    let q = and_parts (is_name scenario && (nat_le 1 (length rows + n) && nat_le (length rows + n) 1_000)) (are_sound_rows rows) p.0 in
    let r = and_parts (is_name scenario) (nat_le 1 (length rows + n) && nat_le (length rows + n) 1_000) q.0 in
    let all : length rows + n ≡ length (rows ++ filling n) = omega (arith, length-append rows (filling n), fill_long n) in
    let text : Key × Record → List ℕ = λ row. row_text row.0 row.1 in
    record {
      more = rows_text (filling n);
      sound = and_true r.0 (and_true (subst (λ m. (nat_le 1 m && nat_le m 1_000) ≡ true) all r.1) (all_both (λ row. is_sound_row row.0 row.1) rows (filling n) q.1 (fill_sound n)));
      rows = all_both (λ row. row_is_of version row.1) rows (filling n) p.1 (fill_of version n);
      command = ap (commands.Load scenario) (sym all);
      text = ap (flat_map ended) (map-append text rows (filling n)) ∙ flat_map-append ended (map text rows) (map text (filling n));
      records = sym all;
    }
fills version left change h =
    let p = and_parts ((suc left == 0) && is_sound_change change) (change_is_of version change) h in
    let q = and_parts (suc left == 0) (is_sound_change change) p.0 in
    absurd (not_zero left q.0)

-- entries whose text begins with that before a place
pub record IsCompleted (frame : Frame) (place : Place) : Type 0 where
  pub entries : List Entry
  pub more : List ℕ
  pub read : AreRead frame entries
  pub begins : entries_text frame.first entries ≡ place_text frame place ++ more

pub completes : (frame : Frame) (place : Place) → IsReached frame place → IsCompleted frame place
unfolding entry_text entry_line change_words
completes frame place h = by_begun place.begun refl
  where
    number : ℕ
    number = frame.first + length place.entries

    by_left : (entry : Entry) (left : ℕ) → place.begun ≡ Some (record { entry = entry; left = suc left }) → IsBegun frame.version (record { entry = entry; left = suc left }) → IsCompleted frame place
    by_left entry left is holds =
        let fill = fills frame.version left entry.change holds.change in
        let whole : Entry = record entry { change = filled (suc left) entry.change } in
        let counted : waiting_count place.begun ≡ 1 = ap waiting_count is in
        let recorded : waiting_records place.begun ≡ record_count entry.change + suc left = ap waiting_records is in
        let few = h.few in
        let own = h.records in
        let limit = h.limit in
        let same = fill.records in
        let one : record_counts (whole ∷ []) ≡ 0 + record_count whole.change = refl in
        let head : entry_line number whole ≡ line_with number entry (suc left) =
        ap (λ command. words_text (decimal number ∷ decimal entry.session ∷ decimal entry.line ∷ entry.user ∷ words_of_command command)) fill.command in
        let text : entry_text number whole ≡ begun_text number entry (suc left) ++ fill.more =
        (λ i. ended (head i) ++ fill.text i) ∙ sym (append_assoc (ended (line_with number entry (suc left))) (rows_behind entry.change) fill.more) in
        record {
          entries = place.entries ++ whole ∷ [];
          more = fill.more;
          read = record {
            sound = all_both is_sound_entry place.entries (whole ∷ []) h.sound (and_true (and_true holds.head fill.sound) refl);
            rows = all_both (λ e. change_is_of frame.version e.change) place.entries (whole ∷ []) h.rows (and_true fill.rows refl);
            few = omega (arith, length-append place.entries (whole ∷ []));
            records = omega (arith, counts_both place.entries (whole ∷ []));
          };
          begins =
              entries_both frame.first place.entries (whole ∷ []) ∙ ap (λ t. entries_text frame.first place.entries ++ t) (append-nil (entry_text number whole) ∙ text)
              ∙ sym (append_assoc (entries_text frame.first place.entries) (begun_text number entry (suc left)) fill.more)
              ∙ ap (λ o. (entries_text frame.first place.entries ++ waiting_text number o) ++ fill.more) (sym is);
        }

    by_begun : (o : Option Begun) → place.begun ≡ o → IsCompleted frame place
    by_begun None is =
        let none : waiting_records place.begun ≡ 0 = ap waiting_records is in
        let counted : waiting_count place.begun ≡ 0 = ap waiting_count is in
        let few = h.few in
        let own = h.records in
        let limit = h.limit in
        record {
          entries = place.entries;
          more = [];
          read = record { sound = h.sound; rows = h.rows; few = omega arith; records = omega arith };
          begins =
              sym (append-nil (entries_text frame.first place.entries)) ∙ ap (λ o. entries_text frame.first place.entries ++ waiting_text number o) (sym is)
              ∙ sym (append-nil (place_text frame place));
        }
    by_begun (Some begun) is =
        let waits : WaitingHolds frame.version (Some begun) = subst (WaitingHolds frame.version) is h.begun in
        let least = waits.1 in
        let one : begun.left ≡ suc (begun.left - 1) = omega arith in
        let same : begun ≡ record { entry = begun.entry; left = suc (begun.left - 1) } = ap (λ n. record { entry = begun.entry; left = n }) one in
        by_left begun.entry (begun.left - 1) (is ∙ ap Some same) (subst (IsBegun frame.version) same waits.0)
