-- What reading a base and a journal tells.
use Rattle.std.proofs.Common.{◌≡◌, ◌≢◌, ℕ, List, Some, Err, refl, sym, subst, ◌∙◌, inr}
use Rattle.std.specs.Prelude.{IsSome}
use Rattle.plan_schema.specs.declared.change.Entry.{Entry}
use Rattle.plan_schema.specs.declared.outside.ShelfFault.{ShelfFault}
use Rattle.plan_schema.specs.declared.outside.ShelfFault.TheVariants as shelves
use Rattle.plan_schema.specs.Contents.{Contents}
use Rattle.plan_schema.specs.Outside.{Rose, Stays}
use Rattle.plan_import.specs.declared.ImportFault.{ImportFault}
use Rattle.plan_import.specs.declared.ImportFault.TheVariants as imports
use Rattle.plan_import.specs.BaseFile.{base_of}
use Rattle.plan_journal.specs.declared.fault.JournalFault.{JournalFault}
use Rattle.plan_journal.specs.declared.fault.JournalFault.TheVariants as journals
use Rattle.plan_journal.specs.Reading.{journal_read}
use Rattle.plan_journal.proofs.JournalLaws.{read_alone}
use Rattle.response_program.specs.Views.{View}
use Rattle.response_program.specs.Outcomes.{Outcome, Done, Made, Tried, Legal, NotLegal, NoMemory, Refused, OfJournal, NotOpened, NotRead, NotWritten, TooLong, HasCause, of_open, of_import, of_journal}
use Rattle.response_program.specs.Runs.{Tells}
use Rattle.response_program.specs.Histories.{HoldsBase, HoldsNoBase, HoldsJournal, ReadsBase, ReadsJournal, IsBaseUnread, IsJournalUnread, IsNoJournalFor, IsHistoryUnread}
use Rattle.response_program.proofs.Whole.{bytes_in}

pub holds_base : (shelf : View) (name : List ℕ) (contents : Contents) → ReadsBase shelf name contents → Tells shelf → HoldsBase shelf name contents
holds_base shelf name contents reads tells = let base = bytes_in (tells name) in record { base = base.0; held = base.1; read = reads base.0 base.1 }

pub holds_journal : (shelf : View) (name : List ℕ) (entries : List Entry) → ReadsJournal shelf name entries → Tells shelf → HoldsJournal shelf name entries
holds_journal shelf name entries reads tells =
    let text = bytes_in (tells name) in record { journal = text.0; held = text.1; text = (read_alone text.0 entries (reads text.0 text.1)).2 }

-- a file couldn't be opened ---------------------------------------------------------------------------------------------------

pub open_cause : (old new : View) (name : List ℕ) (fault : ShelfFault) → (fault ≡ shelves.Failed → Rose (old.opens name) (new.opens name)) → HasCause old new (of_open name fault)
open_cause old new name shelves.Failed rose = rose refl
open_cause old new name shelves.Memory rose = tt

pub base_unopened : (shelf : View) (name : List ℕ) (fault : ShelfFault) → IsBaseUnread shelf name (of_open name fault)
base_unopened shelf name shelves.Failed tells = refl
base_unopened shelf name shelves.Memory tells = tt

pub journal_unopened : (shelf : View) (name : List ℕ) (fault : ShelfFault) → IsJournalUnread shelf name (of_open name fault)
journal_unopened shelf name shelves.Failed tells = refl
journal_unopened shelf name shelves.Memory tells = tt

-- it couldn't be read, or holds something else --------------------------------------------------------------------------------

pub base_cause : (old new : View) (name : List ℕ) (fault : ImportFault) → (fault ≡ imports.Read → Rose (old.reads name) (new.reads name)) → HasCause old new (of_import name fault)
base_cause old new name imports.Read rose = rose refl
base_cause old new name imports.Memory rose = tt
base_cause old new name (imports.Full room) rose = tt
base_cause old new name (imports.Row number fault) rose = tt
base_cause old new name (imports.Twice number) rose = tt
base_cause old new name imports.NoPlan rose = tt

-- what a base that is held is refused for, where it could be read
abbrev pub IsRefusedFor : View → List ℕ → ImportFault → Type 0
IsRefusedFor shelf name fault = (base : List ℕ) → shelf.held name ≡ Some base → fault ≢ imports.Read → fault ≢ imports.Memory → base_of base ≡ Err fault

no_base : (shelf : View) (name : List ℕ) (fault : ImportFault) → ((base : List ℕ) → shelf.held name ≡ Some base → base_of base ≡ Err fault) → Tells shelf → HoldsNoBase shelf name fault
no_base shelf name fault refused tells = let base = bytes_in (tells name) in record { base = base.0; held = base.1; read = refused base.0 base.1 }

pub base_why : (shelf : View) (name : List ℕ) (fault : ImportFault) → IsRefusedFor shelf name fault → IsBaseUnread shelf name (of_import name fault)
base_why shelf name imports.Read refused tells = refl
base_why shelf name imports.Memory refused tells = tt
base_why shelf name (imports.Full room) refused tells = no_base shelf name (imports.Full room) (λ base is. refused base is (λ same. cc) (λ same. cc)) tells
base_why shelf name (imports.Row number fault) refused tells = no_base shelf name (imports.Row number fault) (λ base is. refused base is (λ same. cc) (λ same. cc)) tells
base_why shelf name (imports.Twice number) refused tells = no_base shelf name (imports.Twice number) (λ base is. refused base is (λ same. cc) (λ same. cc)) tells
base_why shelf name imports.NoPlan refused tells = no_base shelf name imports.NoPlan (λ base is. refused base is (λ same. cc) (λ same. cc)) tells

pub journal_cause : (old new : View) (name : List ℕ) (fault : JournalFault) → (fault ≡ journals.Read → Rose (old.reads name) (new.reads name)) → HasCause old new (of_journal name fault)
journal_cause old new name journals.Read rose = rose refl
journal_cause old new name journals.Memory rose = tt
journal_cause old new name (journals.Form line) rose = tt
journal_cause old new name journals.Large rose = tt

-- why a text that is held is no journal's, where it could be read
abbrev pub IsBadFor : View → List ℕ → JournalFault → Type 0
IsBadFor shelf name fault = (text : List ℕ) → shelf.held name ≡ Some text → fault ≢ journals.Read → fault ≢ journals.Memory → journal_read text ≡ Err fault

pub journal_why : (shelf : View) (name : List ℕ) (fault : JournalFault) → IsBadFor shelf name fault → IsJournalUnread shelf name (of_journal name fault)
journal_why shelf name journals.Read bad tells = refl
journal_why shelf name journals.Memory bad tells = tt
journal_why shelf name (journals.Form line) bad tells = (let text = bytes_in (tells name) in record { journal = text.0; held = text.1; why = bad text.0 text.1 (λ is. cc) (λ is. cc) })
journal_why shelf name journals.Large bad tells = (let text = bytes_in (tells name) in record { journal = text.0; held = text.1; why = bad text.0 text.1 (λ is. cc) (λ is. cc) })

-- a journal that isn't read behind a base: the shelf holds what it held
pub journal_before : (old mid : View) (name : List ℕ) (outcome : Outcome) → Stays old.held mid.held → IsNoJournalFor mid name outcome → IsNoJournalFor old name outcome
journal_before old mid name (Done totals) holds h = absurd h
journal_before old mid name (Made parts) holds h = absurd h
journal_before old mid name (Tried trial) holds h = absurd h
journal_before old mid name (Legal count) holds h = absurd h
journal_before old mid name (NotLegal breach) holds h = absurd h
journal_before old mid name NoMemory holds h = tt
journal_before old mid name (Refused fault) holds h = absurd h
journal_before old mid name (OfJournal bad) holds h = record { journal = h.journal; held = sym (holds name) ∙ h.held; why = h.why }
journal_before old mid name (NotOpened other) holds h = h
journal_before old mid name (NotRead other) holds h = h
journal_before old mid name (NotWritten other) holds h = absurd h
journal_before old mid name (TooLong session) holds h = absurd h

pub journal_then : (old mid : View) (base journal : List ℕ) (contents : Contents) (outcome : Outcome) → Stays old.held mid.held → ReadsBase old base contents → IsJournalUnread mid journal outcome → IsHistoryUnread old base journal outcome
journal_then old mid base journal contents outcome holds reads unread tells =
    inr ((contents, holds_base old base contents reads tells), journal_before old mid journal outcome holds (unread (λ name. subst (λ held. IsSome held) (sym (holds name)) (tells name))))
