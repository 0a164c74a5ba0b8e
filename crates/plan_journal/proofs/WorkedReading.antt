-- Worked examples, by computation: texts that are journals, and the first faulty line of texts that aren't.
use Rattle.std.specs.Prelude.{◌≡◌, ℕ, List, [], ◌∷◌, ◌++◌, Ok, Err, codes}
use Rattle.std.proofs.Common.{refl}
use Rattle.std.specs.Fmt.{digits}
use Rattle.plan_schema.specs.declared.key.Key.TheVariants as keys
use Rattle.plan_schema.specs.declared.key.Record.TheVariants as records
use Rattle.plan_schema.specs.declared.change.Change.TheVariants as changes
use Rattle.plan_schema.specs.declared.change.Entry.{Entry}
use Rattle.plan_schema.specs.Name.{is_name}
use Rattle.row_text.specs.Number.{number_of}
use Rattle.row_text.specs.Row as rows
use Rattle.command_words.specs.Words.{words_of}
use Rattle.command_words.specs.Verbs.{verb_of}
use Rattle.command_words.specs.Commands.{only_name, share_of, load_of, command_of_verb, command_of, row_of}
use Rattle.plan_journal.specs.Cuts.{cut_at, parts_of}
use Rattle.plan_journal.specs.Begun.{row_in, change_in, behind_number, number_before, begun_of}
use Rattle.plan_journal.specs.Places.{kept, behind_entry_line, behind_row, continued}
use Rattle.plan_journal.specs.Reading.{place_behind, entries_from, journal_of}

-- the head
abbrev head : List ℕ
head = codes "plan-journal 2\n"

-- a user shares a scenario
abbrev shared : List Entry
shared = record { session = 1; line = 2; user = codes "ann"; change = changes.Share (codes "X") } ∷ []

-- a user loads one row
abbrev loaded : List Entry
loaded = record { session = 1; line = 2; user = codes "ann"; change = changes.Load (codes "X") ((keys.Stock (codes "A"), records.Stock 40) ∷ []) } ∷ []

the_head_alone_is_read : journal_of head ≡ Ok []
unfolding journal_of parts_of entries_from place_behind
the_head_alone_is_read = refl

the_empty_text_lacks_a_line : journal_of [] ≡ Err 1
unfolding journal_of parts_of
the_empty_text_lacks_a_line = refl

one_change_is_read : journal_of (head ++ codes "1 1 2 ann SHARE X\n") ≡ Ok shared
unfolding journal_of parts_of entries_from place_behind continued behind_entry_line begun_of behind_number number_before change_in kept cut_at digits number_of is_name words_of verb_of only_name share_of command_of_verb command_of rows.text_at rows.name_at rows.name_in rows.end_at
one_change_is_read = refl

an_unended_line_is_faulty : journal_of (head ++ codes "1 1 2 ann SHARE X") ≡ Err 2
unfolding journal_of parts_of entries_from place_behind
an_unended_line_is_faulty = refl

another_number_is_faulty : journal_of (head ++ codes "2 1 2 ann SHARE X\n") ≡ Err 2
unfolding journal_of parts_of entries_from place_behind continued behind_entry_line begun_of behind_number number_before change_in kept cut_at digits
another_number_is_faulty = refl

a_loaded_row_is_read : journal_of (head ++ codes "1 1 2 ann LOAD X 1\n" ++ codes "STOCK A 40\n") ≡ Ok loaded
unfolding journal_of parts_of entries_from place_behind continued behind_entry_line behind_row begun_of behind_number number_before change_in row_in kept cut_at digits number_of is_name words_of verb_of load_of command_of_verb command_of row_of rows.row_of rows.row_of_table rows.stock_of rows.text_at rows.name_at rows.name_in rows.number_at rows.end_at
a_loaded_row_is_read = refl

a_cut_load_lacks_a_line : journal_of (head ++ codes "1 1 2 ann LOAD X 1\n") ≡ Err 3
unfolding journal_of parts_of entries_from place_behind continued behind_entry_line begun_of behind_number number_before change_in kept cut_at digits number_of is_name words_of verb_of load_of command_of_verb command_of rows.text_at rows.name_at rows.name_in rows.number_at rows.end_at
a_cut_load_lacks_a_line = refl
