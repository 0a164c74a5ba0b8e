-- What a base and a journal read to, and why they aren't read.
use Rattle.std.specs.Prelude.{◌≡◌, ◌⊎◌, ℕ, List, Some, Ok, Err}
use Rattle.plan_schema.specs.declared.change.Entry.{Entry}
use Rattle.plan_schema.specs.Contents.{Contents}
use Rattle.plan_import.specs.declared.ImportFault.{ImportFault}
use Rattle.plan_import.specs.BaseFile.{base_of}
use Rattle.plan_journal.specs.Laws.{IsTextOf}
use Rattle.plan_journal.specs.Reading.{journal_read}
use Rattle.plan_journal.specs.declared.fault.JournalFault.TheVariants as faults
use Rattle.response_program.specs.declared.ending.BadJournal.{BadJournal}
use Rattle.response_program.specs.declared.ending.BadJournal.TheVariants as bad_journals
use Rattle.response_program.specs.Views.{View}
use Rattle.response_program.specs.Outcomes.{Outcome, NoMemory, Refused, OfJournal, NotOpened, NotRead}
use Rattle.response_program.specs.Runs.{Tells}

-- what a name holds reads to contents
pub record HoldsBase (shelf : View) (name : List ℕ) (contents : Contents) : Type 0 where
  pub base : List ℕ
  pub held : shelf.held name ≡ Some base
  pub read : base_of base ≡ Ok contents

-- it is no base, for this fault
pub record HoldsNoBase (shelf : View) (name : List ℕ) (fault : ImportFault) : Type 0 where
  pub base : List ℕ
  pub held : shelf.held name ≡ Some base
  pub read : base_of base ≡ Err fault

-- it is the text of entries, in the one version or the other
pub record HoldsJournal (shelf : View) (name : List ℕ) (entries : List Entry) : Type 0 where
  pub journal : List ℕ
  pub held : shelf.held name ≡ Some journal
  pub text : IsTextOf journal entries

-- a text is no journal's, in this way
abbrev pub IsNoJournal : List ℕ → BadJournal → Type 0
IsNoJournal text (bad_journals.Form line) = journal_read text ≡ Err (faults.Form line)
IsNoJournal text bad_journals.Large = journal_read text ≡ Err faults.Large
IsNoJournal text (bad_journals.Refused number) = ⊥

pub record HoldsNoJournal (shelf : View) (name : List ℕ) (bad : BadJournal) : Type 0 where
  pub journal : List ℕ
  pub held : shelf.held name ≡ Some journal
  pub why : IsNoJournal journal bad

-- reading --------------------------------------------------------------------------------------------------------------------

-- what is held, where that is told, reads to contents, and to entries
abbrev pub ReadsBase : View → List ℕ → Contents → Type 0
ReadsBase shelf name contents = (base : List ℕ) → shelf.held name ≡ Some base → base_of base ≡ Ok contents

abbrev pub ReadsJournal : View → List ℕ → List Entry → Type 0
ReadsJournal shelf name entries = (journal : List ℕ) → shelf.held name ≡ Some journal → journal_read journal ≡ Ok entries

-- why a base isn't read, and why a journal isn't
abbrev pub IsNoBaseFor : View → List ℕ → Outcome → Type 0
IsNoBaseFor shelf name NoMemory = Unit {0}
IsNoBaseFor shelf name (Refused fault) = HoldsNoBase shelf name fault
IsNoBaseFor shelf name (NotOpened other) = other ≡ name
IsNoBaseFor shelf name (NotRead other) = other ≡ name
IsNoBaseFor shelf name outcome = ⊥

abbrev pub IsNoJournalFor : View → List ℕ → Outcome → Type 0
IsNoJournalFor shelf name NoMemory = Unit {0}
IsNoJournalFor shelf name (OfJournal bad) = HoldsNoJournal shelf name bad
IsNoJournalFor shelf name (NotOpened other) = other ≡ name
IsNoJournalFor shelf name (NotRead other) = other ≡ name
IsNoJournalFor shelf name outcome = ⊥

-- the same on a shelf that tells what it holds
abbrev pub IsBaseUnread : View → List ℕ → Outcome → Type 0
IsBaseUnread shelf name outcome = Tells shelf → IsNoBaseFor shelf name outcome

abbrev pub IsJournalUnread : View → List ℕ → Outcome → Type 0
IsJournalUnread shelf name outcome = Tells shelf → IsNoJournalFor shelf name outcome

-- why the two aren't read: the base isn't, or it is and the journal isn't
abbrev pub IsNoHistory : View → List ℕ → List ℕ → Outcome → Type 0
IsNoHistory shelf base journal outcome = IsNoBaseFor shelf base outcome ⊎ (((contents : Contents) × HoldsBase shelf base contents) × IsNoJournalFor shelf journal outcome)

abbrev pub IsHistoryUnread : View → List ℕ → List ℕ → Outcome → Type 0
IsHistoryUnread shelf base journal outcome = Tells shelf → IsNoHistory shelf base journal outcome
