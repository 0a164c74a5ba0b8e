-- What holds of stores.
use Rattle.std.specs.Prelude.{◌≡◌, ℕ, ◌+◌, ◌≤◌, true, List, [], length}
use Rattle.plan_schema.specs.declared.change.Entry.{Entry}
use Rattle.plan_schema.specs.declared.limits.TheConstants.{BYTE_LIMIT}
use Rattle.plan_schema.specs.Sound.{is_sound_entry}
use Rattle.plan_journal.specs.Entries.{entry_text}
use Rattle.plan_journal.specs.Laws.{IsJournal}
use Rattle.journal_disk.specs.Disks.{Torn}
use Rattle.journal_disk.specs.Images.{end_behind, behind_gate}
use Rattle.journal_disk.specs.Stores.{empty_store, StandsFor, IsFaultyAt}

-- a store without entries stands for none
abbrev pub EmptyStandsForNone : Type 0
EmptyStandsForNone = StandsFor empty_store [] 8

-- bytes stand for at most one history
abbrev pub StandForOne : Type 0
StandForOne = (bytes : List ℕ) (entries others : List Entry) (end other : ℕ) → length bytes ≤ BYTE_LIMIT → StandsFor bytes entries end → StandsFor bytes others other → (entries ≡ others) × (end ≡ other)

-- faulty bytes stand for no history
abbrev pub FaultyStandForNone : Type 0
FaultyStandForNone = (bytes : List ℕ) (place : ℕ) (entries : List Entry) (end : ℕ) → length bytes ≤ BYTE_LIMIT → IsFaultyAt bytes place → StandsFor bytes entries end → ⊥

-- whatever a crash leaves of a block behind the closed gate, the bytes stand for the entries before it
abbrev pub CutShortStandsForTheRest : Type 0
CutShortStandsForTheRest = (bytes torn : List ℕ) (entries : List Entry) (end n : ℕ) → StandsFor bytes entries end → Torn (end + 1) n bytes torn → StandsFor torn entries end

-- behind each history within its limits there is room for one more entry: its block ends within the bytes that a store may have
abbrev pub HistoriesFit : Type 0
HistoriesFit = (entries : List Entry) (entry : Entry) → IsJournal entries → is_sound_entry entry ≡ true → end_behind entries + 1 + length (behind_gate (entry_text (length entries + 1) entry)) ≤ BYTE_LIMIT
