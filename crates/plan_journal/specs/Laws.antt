-- What holds between journals and their texts.
use Rattle.std.specs.Prelude.{◌≡◌, ◌⊎◌, ℕ, ◌+◌, ◌-◌, ◌≤◌, ◌<◌, List, ◌++◌, length, take, true, Ok, Err}
use Rattle.std.specs.List.{flat_map}
use Rattle.plan_schema.specs.declared.change.Entry.{Entry}
use Rattle.plan_schema.specs.declared.limits.TheConstants.{BYTE_LIMIT, ENTRY_LIMIT, CARRIED_LIMIT}
use Rattle.command_words.specs.Replies.{ended}
use Rattle.scenario_rules.specs.Journal.{AreSound}
use Rattle.scenario_rules.specs.Refused.{record_counts}
use Rattle.plan_journal.specs.Entries.{journal_text}
use Rattle.plan_journal.specs.Cuts.{parts_of}
use Rattle.plan_journal.specs.Versions.{has_no_spans, first_version_text}
use Rattle.plan_journal.specs.Reading.{journal_read}
use Rattle.plan_journal.specs.declared.fault.JournalFault.TheVariants.{Form, Large}

-- a journal: sound entries, at most 1,000,000 of them, with at most 4,000,000 records
pub record IsJournal (entries : List Entry) : Type 0 where
  pub sound : AreSound entries
  pub few : length entries ≤ ENTRY_LIMIT
  pub records : record_counts entries ≤ CARRIED_LIMIT

-- a text is that of entries: their text, or that in the first version where no row has a span
abbrev pub IsTextOf : List ℕ → List Entry → Type 0
IsTextOf text entries = (text ≡ journal_text entries) ⊎ ((text ≡ first_version_text entries) × (has_no_spans entries ≡ true))

-- a journal is read from its texts that aren't too long
abbrev pub JournalIsReadAgain : Type 0
JournalIsReadAgain = (text : List ℕ) (entries : List Entry) → length text ≤ BYTE_LIMIT → IsJournal entries → IsTextOf text entries → journal_read text ≡ Ok entries

-- what is read is a journal, and the text is its text
abbrev pub JournalIsReadAlone : Type 0
JournalIsReadAlone = (text : List ℕ) (entries : List Entry) → journal_read text ≡ Ok entries → (length text ≤ BYTE_LIMIT) × IsJournal entries × IsTextOf text entries

-- how many lines of a text have a line feed
abbrev pub line_count : List ℕ → ℕ
line_count text = length (parts_of text).0

-- the first so many of them, each with its line feed
abbrev pub first_lines : ℕ → List ℕ → List ℕ
first_lines count text = flat_map ended (take count (parts_of text).0)

-- no journal begins with the lines up to the faulty one
abbrev pub NoJournalGoesOn : Type 0
NoJournalGoesOn =
    (text : List ℕ) (number : ℕ) → journal_read text ≡ Err (Form number) → number ≤ line_count text → (entries : List Entry) (journal more : List ℕ) → IsJournal entries → IsTextOf journal entries
    → journal ≡ first_lines number text ++ more → ⊥

-- a text that some journal begins with
pub record BeginsJournal (front : List ℕ) : Type 0 where
  pub entries : List Entry
  pub journal : List ℕ
  pub more : List ℕ
  pub sound : IsJournal entries
  pub spelled : IsTextOf journal entries
  pub begins : journal ≡ front ++ more

-- the faulty line is one of the text's lines or the one behind them, and some journal begins with the lines before it
abbrev pub FaultyLineIsFirst : Type 0
FaultyLineIsFirst =
    (text : List ℕ) (number : ℕ) → journal_read text ≡ Err (Form number) → (1 ≤ number) × (number ≤ line_count text + 1) × BeginsJournal (first_lines (number - 1) text)

-- too many bytes are told before all else
abbrev pub LargeIsToldFirst : Type 0
LargeIsToldFirst = (text : List ℕ) → BYTE_LIMIT < length text → journal_read text ≡ Err Large
