-- The versions of a journal's text: in the first no bill has a span.
use Rattle.std.specs.Prelude.{ℕ, Bool, true, false, not, nat_eq, List, ◌++◌, Option, Some, None, if◌then◌else◌, codes}
use Rattle.std.specs.List.{list_all}
use Rattle.std.specs.Cmp.Lexicographic.{pointwise}
use Rattle.plan_schema.specs.declared.key.Record.{Record}
use Rattle.plan_schema.specs.declared.key.Record.TheVariants as records
use Rattle.plan_schema.specs.declared.change.Change.{Change}
use Rattle.plan_schema.specs.declared.change.Change.TheVariants as changes
use Rattle.plan_schema.specs.declared.change.Entry.{Entry}
use Rattle.command_words.specs.Replies.{ended}
use Rattle.plan_journal.specs.Entries.{journal_head, entries_text}
use Rattle.plan_journal.specs.declared.frame.Version.{Version}
use Rattle.plan_journal.specs.declared.frame.Version.TheVariants.{One, Two}

-- the first line of each version
abbrev pub head_of : Version → List ℕ
head_of One = codes "plan-journal 1"
head_of Two = journal_head

-- the text of a journal in a version
abbrev pub text_in : Version → List Entry → List ℕ
text_in version entries = ended (head_of version) ++ entries_text 1 entries

-- the version that a first line tells
abbrev pub version_of : List ℕ → Option Version
version_of line = if pointwise nat_eq line (head_of Two) then Some Two else (if pointwise nat_eq line (head_of One) then Some One else None)

-- a bill that has a span
abbrev pub has_span : Record → Bool
has_span (records.Bill per (Some span)) = true
has_span _ = false

-- a row that a version may have
abbrev pub row_is_of : Version → Record → Bool
row_is_of One value = not (has_span value)
row_is_of Two value = true

-- the row in the line of a change, where there is one, is one that a version may have
abbrev pub line_is_of : Version → Change → Bool
line_is_of version (changes.Put scenario key value) = row_is_of version value
line_is_of version _ = true

-- all the rows of a change are such
abbrev pub change_is_of : Version → Change → Bool
change_is_of version (changes.Put scenario key value) = row_is_of version value
change_is_of version (changes.Load scenario rows) = list_all (λ row. row_is_of version row.1) rows
change_is_of version _ = true

-- all the rows of all entries are such
abbrev pub are_of : Version → List Entry → Bool
are_of version entries = list_all (λ entry. change_is_of version entry.change) entries

-- no row of any entry has a span
abbrev pub has_no_spans : List Entry → Bool
has_no_spans entries = are_of One entries

-- the text of a journal in the first version
abbrev pub first_version_text : List Entry → List ℕ
first_version_text entries = text_in One entries
