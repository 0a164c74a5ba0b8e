-- What making a base and an input comes to: the promise that its users rely on.
use Rattle.std.specs.Prelude.{◌≡◌, ◌≢◌, ◌⊎◌, ℕ, List, [], Option, Some}
use Rattle.plan_schema.specs.Outside.{Rose, IsKeptOrEmpty, TookFront}
use Rattle.plan_make.specs.Base.{base_text}
use Rattle.plan_make.specs.Input.{input_text}
use Rattle.response_program.specs.Names.{console}
use Rattle.response_program.specs.Views.{View, NoneFell}
use Rattle.response_program.specs.Outcomes.{Outcome, Made, NoMemory, NotOpened, NotWritten, status_of, console_line, HasCause}
use Rattle.response_program.specs.Runs.{Tells}

-- the two files differ from each other and from the console
pub record AreApart (base input : List ℕ) : Type 0 where
  pub base_input : base ≢ input
  pub base_console : base ≢ console
  pub input_console : input ≢ console

-- a name that is written: the console's or one of the two files'
abbrev pub IsWritten : List ℕ → List ℕ → List ℕ → Type 0
IsWritten base input name = (name ≡ console) ⊎ ((name ≡ base) ⊎ (name ≡ input))

-- how making may come out: so many parts are made, there was no memory, or what is written couldn't be made or written
abbrev pub IsOfMake : ℕ → List ℕ → List ℕ → Outcome → Type 0
IsOfMake parts base input (Made count) = count ≡ parts
IsOfMake parts base input NoMemory = Unit {0}
IsOfMake parts base input (NotOpened name) = IsWritten base input name
IsOfMake parts base input (NotWritten name) = IsWritten base input name
IsOfMake parts base input outcome = ⊥

-- what a file holds that was to hold a text, by the outcome: the text where all is made; what it held or nothing where something
-- couldn't be opened; a front of the text where something failed
abbrev pub Holds : List ℕ → Option (List ℕ) → Option (List ℕ) → Outcome → Type 0
Holds text before now (Made count) = now ≡ Some text
Holds text before now (NotOpened name) = IsKeptOrEmpty before now
Holds text before now (NotWritten name) = TookFront (Some []) now text
Holds text before now outcome = Unit {0}

-- the two files were made and written, as far as they could be
pub record HasMadeFiles (old new : View) (parts start : ℕ) (base input : List ℕ) (outcome : Outcome) : Type 0 where
  pub of_make : IsOfMake parts base input outcome
  pub none_fell : NoneFell old new
  pub cause : HasCause old new outcome
  pub others : (name : List ℕ) → name ≢ base → name ≢ input → new.held name ≡ old.held name
  pub base_is : Tells old → Holds (base_text parts start) (old.held base) (new.held base) outcome
  pub input_is : Tells old → Holds (input_text parts start) (old.held input) (new.held input) outcome

-- The program made a base and an input of so many parts, from a start, and answered a status. No count of faults fell, and a file that
-- failed is told only where its count of that kind rose. Everything but the two files and the console is as before. What is said of the
-- two is said on a shelf that tells what it holds.
-- Status 0: they hold the texts that the parts and the start give. Status 4: each is as before or empty. Status 6: each holds a front of
-- its text. But for these and for want of memory, 1, there is no other status.
-- But for want of memory the console holds the line of the outcome, unless the console itself failed.
pub record HasMade (old new : View) (parts start : ℕ) (base input : List ℕ) (status : ℕ) : Type 0 where
  pub outcome : Outcome
  pub status_is : status ≡ status_of outcome
  pub of_make : IsOfMake parts base input outcome
  pub none_fell : NoneFell old new
  pub cause : HasCause old new outcome
  pub others : (name : List ℕ) → name ≢ base → name ≢ input → name ≢ console → new.held name ≡ old.held name
  pub base_is : Tells old → Holds (base_text parts start) (old.held base) (new.held base) outcome
  pub input_is : Tells old → Holds (input_text parts start) (old.held input) (new.held input) outcome
  pub told : outcome ≢ NoMemory → Tells old → (Rose (old.opens console) (new.opens console) → ⊥) → (Rose (old.writes console) (new.writes console) → ⊥)
      → new.held console ≡ Some (console_line outcome)
