-- Worked examples, by computation: the text of small journals.
use Rattle.std.specs.Prelude.{◌≡◌, List, [], ◌∷◌, ◌++◌, codes}
use Rattle.std.proofs.Common.{refl}
use Rattle.std.specs.Fmt.{digits}
use Rattle.plan_schema.specs.declared.key.Key.TheVariants as keys
use Rattle.plan_schema.specs.declared.key.Record.TheVariants as records
use Rattle.plan_schema.specs.declared.change.Change.TheVariants as changes
use Rattle.plan_schema.specs.declared.change.Entry.{Entry}
use Rattle.row_text.specs.Spelling.{row_text, row_fields, key_fields, record_fields}
use Rattle.command_words.specs.Spelling.{words_of_command}
use Rattle.plan_journal.specs.Entries.{change_words, entry_line, entry_text, journal_text}

-- a user who gave no name puts the stock of A, asks for its plan, and then takes a demand of A out
abbrev two_changes : List Entry
two_changes =
    record { session = 1; line = 1; user = codes "guest"; change = changes.Put (codes "Baseline") (keys.Stock (codes "A")) (records.Stock 60) }
    ∷ record { session = 1; line = 3; user = codes "guest"; change = changes.Del (codes "Baseline") (keys.Demand (codes "A") (codes "D1")) }
    ∷ []

-- a user loads two rows into a branch in the eighth line of the second session
abbrev two_rows : Entry
two_rows =
    record {
      session = 2;
      line = 8;
      user = codes "ann";
      change = changes.Load (codes "X") ((keys.Stock (codes "A"), records.Stock 40) ∷ (keys.Stock (codes "B"), records.Stock 5) ∷ []);
    }

the_text_of_no_entries : journal_text [] ≡ codes "plan-journal 2\n"
unfolding journal_text
the_text_of_no_entries = refl

the_text_of_two_changes : journal_text two_changes
    ≡ codes "plan-journal 2\n" ++ codes "1 1 1 guest PUT Baseline STOCK A 60\n" ++ codes "2 1 3 guest DEL Baseline DEMAND A D1\n"
unfolding journal_text entry_text entry_line change_words words_of_command row_fields key_fields record_fields digits
the_text_of_two_changes = refl

the_text_of_two_rows : entry_text 12 two_rows ≡ codes "12 2 8 ann LOAD X 2\n" ++ codes "STOCK A 40\n" ++ codes "STOCK B 5\n"
unfolding entry_text entry_line change_words words_of_command row_text row_fields key_fields record_fields digits
the_text_of_two_rows = refl

-- a user branches, puts the stock of A into the branch and that of B into the root, updates and commits
abbrev work_of_ann : List Entry
work_of_ann =
    record { session = 1; line = 2; user = codes "ann"; change = changes.Branch (codes "Baseline") (codes "X") }
    ∷ record { session = 1; line = 3; user = codes "ann"; change = changes.Put (codes "X") (keys.Stock (codes "A")) (records.Stock 40) }
    ∷ record { session = 1; line = 4; user = codes "ann"; change = changes.Put (codes "Baseline") (keys.Stock (codes "B")) (records.Stock 5) }
    ∷ record { session = 1; line = 5; user = codes "ann"; change = changes.Update (codes "X") }
    ∷ record { session = 1; line = 7; user = codes "ann"; change = changes.Commit (codes "X") }
    ∷ []

the_text_of_the_work : journal_text work_of_ann
    ≡ codes "plan-journal 2\n" ++ codes "1 1 2 ann BRANCH Baseline X\n" ++ codes "2 1 3 ann PUT X STOCK A 40\n"
    ++ codes "3 1 4 ann PUT Baseline STOCK B 5\n" ++ codes "4 1 5 ann UPDATE X\n" ++ codes "5 1 7 ann COMMIT X\n"
unfolding journal_text entry_text entry_line change_words words_of_command row_fields key_fields record_fields digits
the_text_of_the_work = refl
