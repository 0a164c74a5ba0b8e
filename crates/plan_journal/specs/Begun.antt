-- What single lines of a journal say.
use Rattle.std.specs.Prelude.{ℕ, ◌+◌, ◌-◌, Bool, false, ◌&&◌, nat_eq, nat_le, List, [], ◌∷◌, ◌++◌, length, Option, Some, None, option_map, Result, Ok, Err, if◌then◌else◌, decimal}
use Rattle.std.specs.Cmp.Lexicographic.{pointwise}
use Rattle.plan_schema.specs.Name.{name_of}
use Rattle.plan_schema.specs.declared.key.Key.{Key}
use Rattle.plan_schema.specs.declared.key.Record.{Record}
use Rattle.plan_schema.specs.declared.change.Change.{Change}
use Rattle.plan_schema.specs.declared.change.Change.TheVariants as changes
use Rattle.plan_schema.specs.declared.limits.TheConstants.{LINE_LIMIT}
use Rattle.row_text.specs.Number.{number_of}
use Rattle.command_words.specs.Changes.{change_of}
use Rattle.command_words.specs.Commands.{command_of, row_of}
use Rattle.command_words.specs.declared.command.Command.{Command}
use Rattle.command_words.specs.declared.command.Command.TheVariants as commands
use Rattle.scenario_rules.specs.Refused.{record_count}
use Rattle.plan_journal.specs.Cuts.{cut_at, parts_singly}
use Rattle.plan_journal.specs.Versions.{row_is_of, line_is_of}
use Rattle.plan_journal.specs.declared.begun.Begun.{Begun}
use Rattle.plan_journal.specs.declared.frame.Version.{Version}

-- what is read, and then what follows from it; nothing ends the reading
infixl 10 ◌>>=◌
abbrev pub ◌>>=◌ : {A B : Type 0} → Option A → (A → Option B) → Option B
(Some x) >>= f = f x
None >>= f = None

-- what was read without a fault
abbrev pub if_read : {A E : Type 0} → Result A E → Option A
if_read (Ok x) = Some x
if_read (Err fault) = None

-- what keeps a rule
abbrev pub where_so : {A : Type 0} → Bool → A → Option A
where_so is_so x = if is_so then Some x else None

-- a command or a row can have this spelling: it isn't too long, and single spaces part its words
abbrev pub may_be_spelled : List ℕ → Bool
may_be_spelled text = nat_le (length text) 1_024 && parts_singly false text

-- a text that may be the spelling of a command or a row
abbrev pub spelled : List ℕ → Option (List ℕ)
spelled text = where_so (may_be_spelled text) text

-- rows ----------------------------------------------------------------------------------------------------------------------

-- the row that a line of a LOAD is
unfoldable pub row_in : Version → List ℕ → Option (Key × Record)
row_in version line = do
  text ← spelled line
  row ← if_read (row_of text)
  where_so (row_is_of version row.1) row

-- a change with one more row, where it is a LOAD
abbrev pub change_with_row : Change → Key × Record → Change
change_with_row (changes.Load scenario rows) row = changes.Load scenario (rows ++ row ∷ [])
change_with_row change row = change

-- a begun entry with the next of its rows
abbrev pub with_row : Begun → Key × Record → Begun
with_row begun row = record { entry = record begun.entry { change = change_with_row begun.entry.change row }; left = begun.left - 1 }

-- how many records it has with the rows that are still to come
abbrev pub records_of : Begun → ℕ
records_of begun = record_count begun.entry.change + begun.left

-- the line of an entry ------------------------------------------------------------------------------------------------------

-- the change that a command asks for, of a LOAD without its rows, and how many rows are to come; nothing where it asks for none
abbrev pub asked_of : Command → Option (Change × ℕ)
asked_of (commands.Load scenario count) = Some (changes.Load scenario [], count)
asked_of command = option_map (λ change. (change, 0)) (change_of command)

-- the change that a text says
unfoldable pub change_in : Version → List ℕ → Option (Change × ℕ)
change_in version line = do
  text ← spelled line
  command ← if_read (command_of text)
  asked ← asked_of command
  where_so (line_is_of version asked.0) asked

-- what stands behind an entry's number
unfoldable pub behind_number : ℕ → List ℕ → Option (List ℕ)
behind_number number line = do
  parts ← cut_at 32 line
  where_so (pointwise nat_eq parts.0 (decimal number)) parts.1

-- a number from low to high, and what stands behind it
unfoldable pub number_before : ℕ → ℕ → List ℕ → Option (ℕ × List ℕ)
number_before low high text = do
  parts ← cut_at 32 text
  number ← if_read (number_of low high parts.0)
  Some (number, parts.1)

-- the entry that a line begins under a number, which stands first; then come a session from 1 to 16, a line from 1 to 1,000,000, a user
-- and a change
unfoldable pub begun_of : Version → ℕ → List ℕ → Option Begun
begun_of version number line = do
  behind ← behind_number number line
  session ← number_before 1 16 behind
  place ← number_before 1 LINE_LIMIT session.1
  user ← cut_at 32 place.1
  name ← name_of user.0
  asked ← change_in version user.1
  Some (record { entry = record { session = session.0; line = place.0; user = name; change = asked.0 }; left = asked.1 })
