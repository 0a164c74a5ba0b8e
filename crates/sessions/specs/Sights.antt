-- What a session sees of its book, and what its calls change of that.
use Rattle.std.specs.Prelude.{◌≡◌, ◌⊎◌, ℕ, ◌≤◌, Bool, true, false, List, length, Some, Result, Ok, Err}
use Rattle.plan_schema.specs.declared.name.Name.{Name}
use Rattle.plan_schema.specs.declared.change.Change.{Change}
use Rattle.plan_schema.specs.declared.change.Entry.{Entry}
use Rattle.plan_schema.specs.declared.refusal.Refusal.{Refusal}
use Rattle.plan_schema.specs.declared.refusal.Refusal.TheVariants as refusals
use Rattle.turn_table.specs.Story.{Begins}
use Rattle.version_rules.specs.Meaning.{meaning_after}
use Rattle.scenario_rules.specs.Steps.{world_after}
use Rattle.planning_rules.specs.Plan.{Known}
use Rattle.walk_rules.specs.Cells.{Cells, Stands}
use Rattle.plan_jobs.specs.declared.job.Job.{Job}
use Rattle.plan_jobs.specs.declared.job.Wanted.{Wanted}
use Rattle.plan_walk.specs.declared.round.Round.{Round}
use Rattle.plan_walk.specs.View.{View}
use Rattle.session_rules.specs.Answers.{trees}
use Rattle.plan_core.specs.State.{State}
use Rattle.plan_core.specs.Holds.{HoldsFor}
use Rattle.plan_core.specs.Asks.{IsAsked, IsBarred}
use Rattle.plan_core.specs.Rounds.{HasRound}
use Rattle.plan_book.specs.declared.ground.Ground.{Ground}
use Rattle.plan_book.specs.Books.{Story, Work, history, state_in, entry_for}
use Rattle.plan_book.specs.Answers.{refusal_of, told}
use Rattle.plan_office.specs.declared.fault.OfficeFault.{OfficeFault}
use Rattle.plan_office.specs.declared.fault.OfficeFault.TheVariants.{Refused, Memory, Failed, Worn}

-- what no call of a session changes: whether it may change anything, its number, what its book began with, and what else stays
pub record Place (F : Type 0) : Type 0 where
  pub may_change : Bool
  pub session : ℕ
  pub began : Ground
  pub rest : F

-- what is seen at a state of a session: its place, how much of the book's story is known, the entries of it that the session made, and how
-- many faults were counted
pub record Sight (F : Type 0) : Type 0 where
  pub place : Place F
  pub seen : Story
  pub own : Story
  pub faults : ℕ

module _ {F : Type 0} where
  -- the history that is known, and what versions of cells mean after it
  abbrev pub known : Sight F → List Entry
  known s = history s.place.began s.seen

  abbrev pub StandsAt : Sight F → Cells → Type 0
  StandsAt s cells = Stands (meaning_after s.place.began.base (known s)) cells

  -- a book at this history, whatever its memo holds
  abbrev pub state_at : Sight F → Work → State
  state_at s work = state_in s.place.began s.seen work

  -- nothing of the session's own was entered; others may have entered something
  pub record Looks (old new : Sight F) : Type 0 where
    pub place : new.place ≡ old.place
    pub grows : Begins old.seen new.seen
    pub own : new.own ≡ old.own
    pub later : old.faults ≤ new.faults

  -- this entry of the session's was made, behind what others may have entered
  pub record Enters (entry : Entry) (old new : Sight F) : Type 0 where
    pub place : new.place ≡ old.place
    pub before : Story
    pub grows : Begins old.seen before
    pub seen : new.seen ≡ told before entry
    pub own : new.own ≡ told old.own entry
    pub later : old.faults ≤ new.faults

  -- calls ----------------------------------------------------------------------------------------------------------------------------

  -- the entry that a change of a session becomes
  abbrev pub entry_at : Sight F → ℕ → Name → Change → Entry
  entry_at s line user change = entry_for s.place.session line user change

  -- an entry was accepted: its number is that of the entries that are known then
  pub record IsAcceptedAt (old new : Sight F) (entry : Entry) (number : ℕ) : Type 0 where
    pub may : old.place.may_change ≡ true
    pub enters : Enters entry old new
    pub number_is : number ≡ length (known new)

  -- why a change is refused: by the first rule that it breaks, or since nothing may be changed
  abbrev pub IsRefusal : Bool → Sight F → Entry → Refusal → Type 0
  IsRefusal true s entry refusal = refusal_of s.place.began s.seen entry ≡ Some refusal
  IsRefusal false s entry refusal = refusal ≡ refusals.ReadOnly

  pub record IsRefusedAt (old new : Sight F) (entry : Entry) (point : ℕ) (refusal : Refusal) : Type 0 where
    pub looks : Looks old new
    pub first : IsRefusal old.place.may_change new entry refusal
    pub point_is : point ≡ length (known new)

  -- a question's job, of the history that is known then
  pub record IsAskedAt (s : Sight F) (user scenario : Name) (wanted : Wanted) (job : Job) : Type 0 where
    pub work : Work
    pub holds : HoldsFor (state_at s work)
    pub asked : IsAsked (state_at s work) user scenario wanted job

  -- why there is none: the user may not use the scenario; or another cause
  abbrev pub IsUnaskedAt : Sight F → Name → Name → OfficeFault → Type 0
  IsUnaskedAt s user scenario (Refused point refusal) = (work : Work) × IsBarred (state_at s work) user scenario point refusal
  IsUnaskedAt s user scenario fault = Unit {0}

  -- the scenarios of a user
  pub record IsTreeAt (s : Sight F) (user : Name) (tree : ℕ × List (List ℕ)) : Type 0 where
    pub point_is : tree.0 ≡ length (known s)
    pub lines_are : tree.1 ≡ trees (world_after s.place.began.base (known s)) user

-- a round of a walk, with the memo of some book
pub record IsRound (walk walk_then : View) (solved : List (Name × Known)) (round : Round) : Type 0 where
  pub taken : State
  pub given : State
  pub round_is : HasRound taken given walk walk_then solved round

-- a change, by what is seen at a state; by when what keeps the entries failed from one state to another; and by where tickets are used up
module _ {F S : Type 0} (sight : S → Sight F) (failed : S → S → Type 0) (worn : S → Type 0) where
  -- it was accepted or refused; there was no memory for it; what keeps the entries failed, and then its entry may have been made; or the
  -- tickets are used up
  abbrev pub IsMade : S → S → Entry → Result ℕ OfficeFault → Type 0
  IsMade old new entry (Ok number) = IsAcceptedAt (sight old) (sight new) entry number
  IsMade old new entry (Err (Refused point refusal)) = IsRefusedAt (sight old) (sight new) entry point refusal
  IsMade old new entry (Err Memory) = ((sight old).place.may_change ≡ true) × Looks (sight old) (sight new)
  IsMade old new entry (Err Failed) =
      ((sight old).place.may_change ≡ true) × failed old new × (Looks (sight old) (sight new) ⊎ Enters entry (sight old) (sight new))
  IsMade old new entry (Err Worn) = Looks (sight old) (sight new) × worn new
