-- The text of a journal: its first line, and then its entries, numbered from 1. Each line ends with one line feed.
use Rattle.std.specs.Prelude.{ℕ, ◌+◌, List, [], ◌∷◌, ◌++◌, length, map, codes, decimal}
use Rattle.std.specs.List.{flat_map}
use Rattle.plan_schema.specs.declared.key.Key.{Key}
use Rattle.plan_schema.specs.declared.key.Record.{Record}
use Rattle.plan_schema.specs.declared.change.Change.{Change}
use Rattle.plan_schema.specs.declared.change.Change.TheVariants as changes
use Rattle.plan_schema.specs.declared.change.Entry.{Entry}
use Rattle.row_text.specs.Spelling.{words_text, row_text}
use Rattle.command_words.specs.declared.command.Command.{Command}
use Rattle.command_words.specs.declared.command.Command.TheVariants as commands
use Rattle.command_words.specs.Spelling.{words_of_command}
use Rattle.command_words.specs.Replies.{ended}

-- the command that asks for a change; that of a LOAD has the number of its rows
abbrev pub command_for : Change → Command
command_for (changes.Put scenario key value) = commands.Put scenario key value
command_for (changes.Del scenario key) = commands.Del scenario key
command_for (changes.Load scenario rows) = commands.Load scenario (length rows)
command_for (changes.Branch parent child) = commands.Branch parent child
command_for (changes.Share scenario) = commands.Share scenario
command_for (changes.Update scenario) = commands.Update scenario
command_for (changes.Commit scenario) = commands.Commit scenario
command_for (changes.Drop scenario) = commands.Drop scenario

-- the words of a change: those of its command
unfoldable pub change_words : Change → List (List ℕ)
change_words change = words_of_command (command_for change)

-- the line of an entry: its number, the session, the line in the session's input, the user and the change, parted by single spaces
unfoldable pub entry_line : ℕ → Entry → List ℕ
entry_line number entry =
    words_text (decimal number ∷ decimal entry.session ∷ decimal entry.line ∷ entry.user ∷ change_words entry.change)

-- rows, a line each
abbrev pub rows_text : List (Key × Record) → List ℕ
rows_text rows = flat_map ended (map (λ row. row_text row.0 row.1) rows)

-- what follows the line of a change: the rows of a LOAD, and nothing for any other change
abbrev pub rows_behind : Change → List ℕ
rows_behind (changes.Load scenario rows) = rows_text rows
rows_behind _ = []

-- the text of an entry under its number: its line, and the rows of a LOAD behind it
unfoldable pub entry_text : ℕ → Entry → List ℕ
entry_text number entry = ended (entry_line number entry) ++ rows_behind entry.change

-- the texts of entries that are numbered from a number on, without a gap
abbrev pub entries_text : ℕ → List Entry → List ℕ
entries_text number [] = []
entries_text number (entry ∷ more) = entry_text number entry ++ entries_text (number + 1) more

-- the first line
abbrev pub journal_head : List ℕ
journal_head = codes "plan-journal 2"

-- the text of a journal
unfoldable pub journal_text : List Entry → List ℕ
journal_text entries = ended journal_head ++ entries_text 1 entries
