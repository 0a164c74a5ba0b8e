-- How a run ends once something more was written, and what endings tell.
use Rattle.std.proofs.Common.{◌≡◌, ◌≢◌, ℕ, List, Result, Ok, Err, refl, subst}
use Rattle.plan_schema.specs.Outside.{Rose}
use Rattle.plan_schema.specs.declared.outside.SinkFault.{SinkFault}
use Rattle.plan_schema.specs.declared.outside.SinkFault.TheVariants as sinks
use Rattle.plan_import.specs.declared.ImportFault.{ImportFault}
use Rattle.plan_import.specs.declared.ImportFault.TheVariants as imports
use Rattle.response_program.specs.declared.ending.Totals.{Totals}
use Rattle.response_program.specs.Names.{Names, console}
use Rattle.response_program.specs.Views.{View}
use Rattle.response_program.specs.Outcomes.{Outcome, Done, Made, Tried, Legal, OfJournal, NotLegal, NoMemory, Refused, NotOpened, NotRead, NotWritten, TooLong, HasCause, of_import, and_written}
use Rattle.response_program.specs.Desks.{IsOpening}
use Rattle.response_program.specs.Runs.{IsOfBase, IsCut}

pub written_done : (outcome : Outcome) (name : List ℕ) (written : Result (Unit {0}) SinkFault) (totals : Totals) → and_written outcome name written ≡ Done totals → (outcome ≡ Done totals) × (written ≡ Ok tt)
written_done outcome name (Ok done) number is = (is, refl)
written_done outcome name (Err sinks.Memory) number is = cc
written_done (Done totals) name (Err sinks.Failed) number is = cc
written_done (Made parts) name (Err sinks.Failed) number is = cc
written_done (Tried trial) name (Err sinks.Failed) number is = cc
written_done (Legal entries) name (Err sinks.Failed) number is = cc
written_done NoMemory name (Err sinks.Failed) number is = cc
written_done (Refused fault) name (Err sinks.Failed) number is = cc
written_done (NotOpened other) name (Err sinks.Failed) number is = cc
written_done (OfJournal bad) name (Err sinks.Failed) number is = cc
written_done (NotLegal breach) name (Err sinks.Failed) number is = cc
written_done (NotRead other) name (Err sinks.Failed) number is = cc
written_done (NotWritten other) name (Err sinks.Failed) number is = cc
written_done (TooLong session) name (Err sinks.Failed) number is = cc

pub written_long : (outcome : Outcome) (name : List ℕ) (written : Result (Unit {0}) SinkFault) (session : ℕ) → and_written outcome name written ≡ TooLong session → outcome ≡ TooLong session
written_long outcome name (Ok done) session is = is
written_long outcome name (Err sinks.Memory) session is = cc
written_long (Done totals) name (Err sinks.Failed) session is = cc
written_long (Made parts) name (Err sinks.Failed) session is = cc
written_long (Tried trial) name (Err sinks.Failed) session is = cc
written_long (Legal entries) name (Err sinks.Failed) session is = cc
written_long NoMemory name (Err sinks.Failed) session is = is
written_long (Refused fault) name (Err sinks.Failed) session is = is
written_long (NotOpened other) name (Err sinks.Failed) session is = is
written_long (OfJournal bad) name (Err sinks.Failed) session is = is
written_long (NotLegal breach) name (Err sinks.Failed) session is = is
written_long (NotRead other) name (Err sinks.Failed) session is = is
written_long (NotWritten other) name (Err sinks.Failed) session is = is
written_long (TooLong number) name (Err sinks.Failed) session is = is

pub written_refused : (outcome : Outcome) (name : List ℕ) (written : Result (Unit {0}) SinkFault) (fault : ImportFault) → and_written outcome name written ≡ Refused fault → outcome ≡ Refused fault
written_refused outcome name (Ok done) fault is = is
written_refused outcome name (Err sinks.Memory) fault is = cc
written_refused (Done totals) name (Err sinks.Failed) fault is = cc
written_refused (Made parts) name (Err sinks.Failed) fault is = cc
written_refused (Tried trial) name (Err sinks.Failed) fault is = cc
written_refused (Legal entries) name (Err sinks.Failed) fault is = cc
written_refused NoMemory name (Err sinks.Failed) fault is = is
written_refused (Refused other) name (Err sinks.Failed) fault is = is
written_refused (NotOpened other) name (Err sinks.Failed) fault is = is
written_refused (OfJournal bad) name (Err sinks.Failed) fault is = is
written_refused (NotLegal breach) name (Err sinks.Failed) fault is = is
written_refused (NotRead other) name (Err sinks.Failed) fault is = is
written_refused (NotWritten other) name (Err sinks.Failed) fault is = is
written_refused (TooLong session) name (Err sinks.Failed) fault is = is

pub written_opened : (outcome : Outcome) (name : List ℕ) (written : Result (Unit {0}) SinkFault) (failed : List ℕ) → and_written outcome name written ≡ NotOpened failed → outcome ≡ NotOpened failed
written_opened outcome name (Ok done) failed is = is
written_opened outcome name (Err sinks.Memory) failed is = cc
written_opened (Done totals) name (Err sinks.Failed) failed is = cc
written_opened (Made parts) name (Err sinks.Failed) failed is = cc
written_opened (Tried trial) name (Err sinks.Failed) failed is = cc
written_opened (Legal entries) name (Err sinks.Failed) failed is = cc
written_opened NoMemory name (Err sinks.Failed) failed is = is
written_opened (Refused other) name (Err sinks.Failed) failed is = is
written_opened (NotOpened other) name (Err sinks.Failed) failed is = is
written_opened (OfJournal bad) name (Err sinks.Failed) failed is = is
written_opened (NotLegal breach) name (Err sinks.Failed) failed is = is
written_opened (NotRead other) name (Err sinks.Failed) failed is = is
written_opened (NotWritten other) name (Err sinks.Failed) failed is = is
written_opened (TooLong session) name (Err sinks.Failed) failed is = is

pub written_of_base : (names : Names) (outcome : Outcome) (name : List ℕ) (written : Result (Unit {0}) SinkFault) → IsOfBase names (and_written outcome name written) → IsOfBase names outcome
written_of_base names outcome name (Ok done) is = is
written_of_base names outcome name (Err sinks.Memory) is = absurd is
written_of_base names (Done totals) name (Err sinks.Failed) is = absurd is
written_of_base names (Made parts) name (Err sinks.Failed) is = absurd is
written_of_base names (Tried trial) name (Err sinks.Failed) is = absurd is
written_of_base names (Legal entries) name (Err sinks.Failed) is = absurd is
written_of_base names NoMemory name (Err sinks.Failed) is = is
written_of_base names (Refused other) name (Err sinks.Failed) is = is
written_of_base names (OfJournal bad) name (Err sinks.Failed) is = absurd is
written_of_base names (NotLegal breach) name (Err sinks.Failed) is = absurd is
written_of_base names (NotOpened other) name (Err sinks.Failed) is = is
written_of_base names (NotRead other) name (Err sinks.Failed) is = is
written_of_base names (NotWritten other) name (Err sinks.Failed) is = is
written_of_base names (TooLong session) name (Err sinks.Failed) is = is

-- what couldn't begin
pub opening_done : (outcome : Outcome) (totals : Totals) → IsOpening outcome → outcome ≡ Done totals → ⊥
opening_done outcome totals opening is = subst IsOpening is opening

pub opening_long : (outcome : Outcome) (session : ℕ) → IsOpening outcome → outcome ≡ TooLong session → ⊥
opening_long outcome session opening is = subst IsOpening is opening

pub opening_cut : (names : Names) (outcome : Outcome) → IsOpening outcome → IsCut names outcome → ⊥
opening_cut names (NotOpened name) opening cut = cut
opening_cut names NoMemory opening cut = cut
opening_cut names (Done totals) opening cut = opening
opening_cut names (Made parts) opening cut = opening
opening_cut names (Tried trial) opening cut = opening
opening_cut names (Legal entries) opening cut = opening
opening_cut names (Refused fault) opening cut = opening
opening_cut names (OfJournal bad) opening cut = opening
opening_cut names (NotLegal breach) opening cut = opening
opening_cut names (NotRead name) opening cut = opening
opening_cut names (NotWritten name) opening cut = opening
opening_cut names (TooLong session) opening cut = opening

pub opening_of_base : (names : Names) (outcome : Outcome) → IsOpening outcome → IsOfBase names outcome → ⊥
opening_of_base names (NotOpened name) opening base = base
opening_of_base names NoMemory opening base = base
opening_of_base names (Done totals) opening base = opening
opening_of_base names (Made parts) opening base = opening
opening_of_base names (Tried trial) opening base = opening
opening_of_base names (Legal entries) opening base = opening
opening_of_base names (Refused fault) opening base = opening
opening_of_base names (OfJournal bad) opening base = opening
opening_of_base names (NotLegal breach) opening base = opening
opening_of_base names (NotRead name) opening base = opening
opening_of_base names (NotWritten name) opening base = opening
opening_of_base names (TooLong session) opening base = opening

pub written_cause : (old new : View) (outcome : Outcome) (name : List ℕ) (written : Result (Unit {0}) SinkFault) → HasCause old new outcome → (written ≡ Err sinks.Failed → Rose (old.writes name) (new.writes name)) → HasCause old new (and_written outcome name written)
written_cause old new outcome name (Ok done) cause rose = cause
written_cause old new outcome name (Err sinks.Memory) cause rose = tt
written_cause old new (Done totals) name (Err sinks.Failed) cause rose = rose refl
written_cause old new (Made parts) name (Err sinks.Failed) cause rose = rose refl
written_cause old new (Tried trial) name (Err sinks.Failed) cause rose = rose refl
written_cause old new (Legal entries) name (Err sinks.Failed) cause rose = rose refl
written_cause old new NoMemory name (Err sinks.Failed) cause rose = cause
written_cause old new (Refused fault) name (Err sinks.Failed) cause rose = cause
written_cause old new (OfJournal bad) name (Err sinks.Failed) cause rose = cause
written_cause old new (NotLegal breach) name (Err sinks.Failed) cause rose = cause
written_cause old new (NotOpened other) name (Err sinks.Failed) cause rose = cause
written_cause old new (NotRead other) name (Err sinks.Failed) cause rose = cause
written_cause old new (NotWritten other) name (Err sinks.Failed) cause rose = cause
written_cause old new (TooLong session) name (Err sinks.Failed) cause rose = cause

-- where the outcome stays, and nothing failed for want of memory, the text was written or its count rose
pub written_told : (outcome : Outcome) (name : List ℕ) (written : Result (Unit {0}) SinkFault) → and_written outcome name written ≢ NoMemory → (written ≡ Err sinks.Failed → ⊥) → (written ≡ Ok tt) × (and_written outcome name written ≡ outcome)
written_told outcome name (Ok done) never rose = (refl, refl)
written_told outcome name (Err sinks.Memory) never rose = absurd (never refl)
written_told outcome name (Err sinks.Failed) never rose = absurd (rose refl)

-- what cut a session short cut it before anything more was written
pub written_cut : (names : Names) (outcome : Outcome) (name : List ℕ) (written : Result (Unit {0}) SinkFault) → (name ≢ names.journal → name ≢ console → ⊥) → IsCut names (and_written outcome name written) → IsCut names outcome
written_cut names outcome name (Ok done) either cut = cut
written_cut names outcome name (Err sinks.Memory) either cut = absurd cut
written_cut names (Done totals) name (Err sinks.Failed) either cut = absurd (either cut.0 cut.1)
written_cut names (Made parts) name (Err sinks.Failed) either cut = absurd (either cut.0 cut.1)
written_cut names (Tried trial) name (Err sinks.Failed) either cut = absurd (either cut.0 cut.1)
written_cut names (Legal entries) name (Err sinks.Failed) either cut = absurd (either cut.0 cut.1)
written_cut names NoMemory name (Err sinks.Failed) either cut = cut
written_cut names (Refused fault) name (Err sinks.Failed) either cut = cut
written_cut names (OfJournal bad) name (Err sinks.Failed) either cut = cut
written_cut names (NotLegal breach) name (Err sinks.Failed) either cut = cut
written_cut names (NotOpened other) name (Err sinks.Failed) either cut = cut
written_cut names (NotRead other) name (Err sinks.Failed) either cut = cut
written_cut names (NotWritten other) name (Err sinks.Failed) either cut = cut
written_cut names (TooLong session) name (Err sinks.Failed) either cut = cut

pub cut_written : (names : Names) (outcome : Outcome) (name : List ℕ) (written : Result (Unit {0}) SinkFault) → IsCut names (and_written outcome name written) → (written ≡ Err sinks.Failed → ⊥) → written ≡ Ok tt
cut_written names outcome name (Ok done) cut never = refl
cut_written names outcome name (Err sinks.Memory) cut never = absurd cut
cut_written names outcome name (Err sinks.Failed) cut never = absurd (never refl)

-- a base that wasn't read cuts no session short
pub base_no_cut : (names : Names) (fault : ImportFault) → IsCut names (of_import names.base fault) → ⊥
base_no_cut names imports.Read cut = cut refl
base_no_cut names imports.Memory cut = cut
base_no_cut names (imports.Full room) cut = cut
base_no_cut names (imports.Row number fault) cut = cut
base_no_cut names (imports.Twice number) cut = cut
base_no_cut names imports.NoPlan cut = cut
