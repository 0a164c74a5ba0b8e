-- What the calls of a book come to.
use Rattle.std.specs.Prelude.{◌≡◌, ◌⊎◌, ℕ, ◌≤◌, true, List, [], ◌∷◌, ◌++◌, Option, Some, None, Result, Ok, Err}
use Rattle.plan_schema.specs.declared.name.Name.{Name}
use Rattle.plan_schema.specs.declared.change.Entry.{Entry}
use Rattle.plan_schema.specs.declared.refusal.Refusal.{Refusal}
use Rattle.plan_schema.specs.Outside.{Rose}
use Rattle.scenario_rules.specs.Refused.{access_refusal, refused}
use Rattle.plan_book.specs.declared.fault.BookFault.{BookFault}
use Rattle.plan_book.specs.declared.fault.BookFault.TheVariants.{Refused, Memory, Failed}
use Rattle.plan_book.specs.declared.ground.Ground.{Ground}
use Rattle.session_rules.specs.Answers.{trees}
use Rattle.plan_core.specs.State as states
use Rattle.plan_core.specs.Changes.{yields_to_memory, is_reclaim_due, IsTidied}
use Rattle.plan_core.specs.Asks.{IsBarred}
use Rattle.plan_book.specs.Books.{Story, history, point_of}

-- the refusal of an entry's change after a story, if there is one
abbrev pub refusal_of : Ground → Story → Entry → Option Refusal
refusal_of began story entry = refused began.base (history began story) entry.user entry.change

-- the story with one more entry
abbrev pub told : Story → Entry → Story
told story entry = story ++ (entry.session, entry) ∷ []

-- an accepted change: it isn't refused, and the story has its entry, whose number is answered
pub record IsAccepted (began : Ground) (before after : Story) (entry : Entry) (number : ℕ) : Type 0 where
  pub allowed : refusal_of began before entry ≡ None
  pub entered : after ≡ told before entry
  pub number_is : number ≡ point_of began after

-- a refused change: the story is as before, and its first refusal is answered with the number of entries
pub record IsRefused (began : Ground) (before after : Story) (entry : Entry) (point : ℕ) (refusal : Refusal) : Type 0 where
  pub first : refusal_of began before entry ≡ Some refusal
  pub same : after ≡ before
  pub point_is : point ≡ point_of began before

-- a change that failed: no refusal but one for want of room applies, and the story is as before; or none applies, and its entry may
-- stand in the story
pub record IsFailed (began : Ground) (before after : Story) (entry : Entry) (faults faults_then : ℕ) : Type 0 where
  pub late : yields_to_memory (refusal_of began before entry) ≡ true
  pub rose : Rose faults faults_then
  pub either : (after ≡ before) ⊎ ((refusal_of began before entry ≡ None) × (after ≡ told before entry))

-- there was no memory for a change: the story is as before
pub record IsWanting (began : Ground) (before after : Story) (entry : Entry) : Type 0 where
  pub late : yields_to_memory (refusal_of began before entry) ≡ true
  pub same : after ≡ before

-- what a change is answered
abbrev pub IsChangeAnswer : Ground → Story → Story → ℕ → ℕ → Entry → Result ℕ BookFault → Type 0
IsChangeAnswer began before after faults faults_then entry (Ok number) = IsAccepted began before after entry number
IsChangeAnswer began before after faults faults_then entry (Err (Refused point refusal)) = IsRefused began before after entry point refusal
IsChangeAnswer began before after faults faults_then entry (Err Memory) = IsWanting began before after entry
IsChangeAnswer began before after faults faults_then entry (Err Failed) = IsFailed began before after entry faults faults_then

-- a call of `change`: the book keeps what it began with, its count of faults doesn't fall, and it answers so. The meanings of the book
-- come first.
pub record HasChanged {B : Type 0} (story : B → Story) (faults : B → ℕ) (basis : B → Ground) (old new : B) (entry : Entry) (result : Result ℕ BookFault) : Type 0 where
  pub kept : basis new ≡ basis old
  pub later : faults old ≤ faults new
  pub answer : IsChangeAnswer (basis old) (story old) (story new) (faults old) (faults new) entry result

-- the memo and the numbers after a change: where it was accepted those of a core that entered it, where it was refused or found no memory
-- those from before
abbrev pub HasWorked : states.State → states.State → Result ℕ BookFault → Type 0
HasWorked old new (Ok number) =
    let entered = record old { entries = new.entries } in IsTidied (is_reclaim_due (states.point_of entered)) entered new
HasWorked old new (Err Failed) = Unit {0}
HasWorked old new (Err fault) = new ≡ old

-- why a question has no job: the user may not use the scenario, or there was no memory for it where he may
abbrev pub IsAskFault : states.State → Name → Name → BookFault → Type 0
IsAskFault book user scenario (Refused point refusal) = IsBarred book user scenario point refusal
IsAskFault book user scenario Memory = access_refusal (states.world_of book) user scenario ≡ None
IsAskFault book user scenario Failed = ⊥

-- the scenarios that the user may use, at the number of entries
abbrev pub IsTree : states.State → Name → ℕ × List (List ℕ) → Type 0
IsTree book user tree = (tree.0 ≡ states.point_of book) × (tree.1 ≡ trees (states.world_of book) user)
