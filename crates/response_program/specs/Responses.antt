-- What the program comes to: the promise that its users rely on.
use Rattle.std.specs.Prelude.{◌≡◌, ◌≢◌, ℕ, List, Some, Err, codes}
use Rattle.plan_import.specs.declared.ImportFault.{ImportFault}
use Rattle.plan_import.specs.BaseFile.{base_of}
use Rattle.plan_schema.specs.Outside.{Rose, IsKeptOrEmpty}
use Rattle.response_program.specs.declared.ending.Totals.{Totals}
use Rattle.response_program.specs.Names.{Names, console}
use Rattle.response_program.specs.Views.{View, NoneFell}
use Rattle.response_program.specs.Outcomes.{Outcome, Done, NoMemory, Refused, NotOpened, TooLong, status_of, console_line, HasCause}
use Rattle.response_program.specs.Runs.{Tells, IsNoOutput, IsOfBase, IsDone, IsTooLong, IsCut, IsShort}

-- The program ran and answered a status. No count of faults fell, and a file that failed is told only where its count of that kind
-- rose. What is said of files is said on a shelf that tells what it holds.
-- Status 0: the base reads to contents, the journal held is that of a legal history of changes, and the outputs held are the texts of
-- sessions that are legal at this history for the inputs held, in the rounds that the words tell: the rounds stand one after the other,
-- and the sessions of a round in any order of their turns; each entry is an accepted change of exactly one session, and each session's
-- stand in its order. What was netted, reused and dropped is told just where each round has one session.
-- Status 3: the base is refused for its first fault, and everything but the console is as before, as it is where the base wasn't read.
-- Status 4: each file is as before or empty. Status 7: the base reads to contents, and the input of the session told is the first that
-- is too long; with status 0 none is. Where an input or an output failed, or an input is too long, the journal, unless it failed too, is
-- that of the changes accepted. Where each round has one session, the outputs of earlier sessions are whole; that of the session in
-- question is the text of legal replies to its first requests, maybe without a part of the last one; and later ones are empty. Else the
-- outputs of the rounds before the last that was begun are whole; each of that one's is the text of legal replies to the first requests
-- of its session, maybe without a part of the last one; and those of later rounds are empty.
-- But for want of memory the console holds the line of the outcome, unless the console itself failed.
pub record HasResponded (old new : View) (names : Names) (status : ℕ) : Type 0 where
  pub outcome : Outcome
  pub status_is : status ≡ status_of outcome
  pub none_fell : NoneFell old new
  pub cause : HasCause old new outcome
  pub others : (name : List ℕ) → name ≢ names.journal → IsNoOutput names name → name ≢ console → new.held name ≡ old.held name
  pub refused : (fault : ImportFault) → outcome ≡ Refused fault → (base : List ℕ) → old.held names.base ≡ Some base → base_of base ≡ Err fault
  pub kept : IsOfBase names outcome → (name : List ℕ) → name ≢ console → new.held name ≡ old.held name
  pub opened : (failed : List ℕ) → outcome ≡ NotOpened failed → Tells old → (name : List ℕ) → name ≢ console → IsKeptOrEmpty (old.held name) (new.held name)
  pub done : (totals : Totals) → outcome ≡ Done totals → Tells old → IsDone old new names totals
  pub limit : (session : ℕ) → outcome ≡ TooLong session → Tells old → IsTooLong old names session
  pub cut : IsCut names outcome → Tells old → (Rose (old.writes names.journal) (new.writes names.journal) → ⊥) → IsShort old new names
  pub told : outcome ≢ NoMemory → Tells old → (Rose (old.opens console) (new.opens console) → ⊥) → (Rose (old.writes console) (new.writes console) → ⊥)
      → new.held console ≡ Some (console_line outcome)

-- the words aren't the program's: the status is 2, or 1 for want of memory. Everything but the console is as before, and with status 2
-- the console holds its line, unless the console itself failed.
pub record HasRefused (old new : View) (status : ℕ) : Type 0 where
  pub status_is : status ≢ 1 → status ≡ 2
  pub none_fell : NoneFell old new
  pub others : (name : List ℕ) → name ≢ console → new.held name ≡ old.held name
  pub told : status ≡ 2 → Tells old → (Rose (old.opens console) (new.opens console) → ⊥) → (Rose (old.writes console) (new.writes console) → ⊥)
      → new.held console ≡ Some (codes "words\n")
