-- A journal's text, read line by line.
use Rattle.std.specs.Prelude.{ℕ, ◌+◌, ◌&&◌, ◌==◌, nat_lt, List, [], ◌∷◌, length, Option, Some, None, is_none, Result, Ok, Err, if◌then◌else◌}
use Rattle.plan_schema.specs.declared.change.Entry.{Entry}
use Rattle.plan_schema.specs.declared.limits.TheConstants.{BYTE_LIMIT, ENTRY_LIMIT}
use Rattle.row_text.specs.Row.{◌>>=◌}
use Rattle.plan_journal.specs.Cuts.{parts_of}
use Rattle.plan_journal.specs.Places.{Place, nothing, continued}
use Rattle.plan_journal.specs.Versions.{version_of}
use Rattle.plan_journal.specs.declared.fault.JournalFault.{JournalFault}
use Rattle.plan_journal.specs.declared.fault.JournalFault.TheVariants.{Form, Large}
use Rattle.plan_journal.specs.declared.frame.Frame.{Frame}
use Rattle.plan_journal.specs.declared.frame.Version.{Version}

-- the line with a number that says nothing is faulty
abbrev pub told : {A : Type 0} → ℕ → Option A → Result A ℕ
told number None = Err number
told number (Some x) = Ok x

-- the place behind lines that are numbered from a number on, or the number of the first one that nothing goes on with
unfoldable pub place_behind : Frame → Place → ℕ → List (List ℕ) → Result Place ℕ
place_behind frame place number [] = Ok place
place_behind frame place number (line ∷ lines) = do
  next ← told number (continued frame place line)
  place_behind frame next (number + 1) lines

-- the entries, where none of them waits for rows and nothing stands behind the last line feed
abbrev pub finished : Place → List ℕ → Option (List Entry)
finished place last = if is_none place.begun && (length last == 0) then Some place.entries else None

-- the entries behind a place, from the lines that are numbered from a number on and what stands behind them; or the number of the
-- first line that nothing goes on with, where the end counts as one more line
unfoldable pub entries_from : Frame → Place → ℕ → List (List ℕ) × List ℕ → Result (List Entry) ℕ
entries_from frame place number parts = do
  behind ← place_behind frame place number parts.0
  told (number + length parts.0) (finished behind parts.1)

-- the most entries of a journal, numbered from 1
abbrev pub journal_frame : Version → Frame
journal_frame version = record { version = version; first = 1; most = ENTRY_LIMIT }

-- a journal's first line, and then its entries
abbrev pub journal_in : List (List ℕ) → List ℕ → Result (List Entry) ℕ
journal_in [] last = Err 1
journal_in (head ∷ lines) last = do
  version ← told 1 (version_of head)
  entries_from (journal_frame version) nothing 2 (lines, last)

-- the entries of a journal's text, or the number of the first line that no journal goes on with, where the end counts as one more line
unfoldable pub journal_of : List ℕ → Result (List Entry) ℕ
journal_of text = journal_in (parts_of text).0 (parts_of text).1

-- the most bytes of a journal

abbrev pub in_form : Result (List Entry) ℕ → Result (List Entry) JournalFault
in_form (Ok entries) = Ok entries
in_form (Err number) = Err (Form number)

-- what a journal's bytes are read as: too many bytes come before a faulty line
unfoldable pub journal_read : List ℕ → Result (List Entry) JournalFault
journal_read text = if nat_lt BYTE_LIMIT (length text) then Err Large else in_form (journal_of text)
