-- Runs of a core: steps, one after another, with their replies.
use Rattle.std.specs.Prelude.{◌≡◌, ℕ, ◌≤◌, Bool, true, List, [], ◌∷◌, ◌++◌, take, length, Option, Some, None, IfSome}
use Rattle.plan_schema.specs.declared.name.Name.{Name}
use Rattle.plan_schema.specs.Sound.{is_sound_entry}
use Rattle.walk_rules.specs.Cells.{Stands}
use Rattle.plan_jobs.specs.declared.job.Wanted.{Wanted}
use Rattle.plan_walk.specs.Walk.{IsOpen, IsSolved}
use Rattle.plan_core.specs.State.{State, point_of, meaning_of}
use Rattle.core_runs.specs.declared.step.CoreStep.{CoreStep}
use Rattle.core_runs.specs.declared.step.CoreStep.TheVariants as steps
use Rattle.core_runs.specs.declared.step.CoreReply.{CoreReply}
use Rattle.core_runs.specs.declared.step.CoreReply.TheVariants as replies
use Rattle.core_runs.specs.declared.in_work.InWork.{InWork}
use Rattle.core_runs.specs.Machine.{Walks, Machine, walk_at, with_walk, unasked}
use Rattle.core_runs.specs.Replies.{IsChangeReply, IsAskReply, IsNetted, IsRoundReply, IsTreeReply, IsReclaimReply}

-- a step that a core can take: a change is one that the grammar of commands can spell
abbrev pub is_sound_step : CoreStep → Bool
is_sound_step (steps.Change entry) = is_sound_entry entry
is_sound_step _ = true

-- a question has the next number, whether or not it has a walk
pub record IsAskStep (core : State) (user scenario : Name) (wanted : Wanted) (old new : Walks) (reply : CoreReply) : Type 0 where
  pub walk : Option InWork
  pub replied : IsAskReply core user scenario wanted reply walk
  pub listed : new ≡ old ++ walk ∷ []

-- netting for a walk in work
pub record NetsWalk (number : ℕ) (work : InWork) (old new : Walks) (reply : CoreReply) : Type 0 where
  pub left : InWork
  pub netted : IsNetted work left reply
  pub listed : new ≡ with_walk old number (Some left)

-- where the walk isn't in work, the reply is that, and nothing changes
abbrev pub IsSolveStep : ℕ → Option InWork → Walks → Walks → CoreReply → Type 0
IsSolveStep number None old new reply = (reply ≡ replies.Idle) × (new ≡ old)
IsSolveStep number (Some work) old new reply = NetsWalk number work old new reply

-- a round of a walk in work
pub record RoundsWalk (number : ℕ) (work : InWork) (old new : Machine) (reply : CoreReply) : Type 0 where
  pub left : Option InWork
  pub replied : IsRoundReply old.core new.core work reply left
  pub listed : new.walks ≡ with_walk old.walks number left

abbrev pub IsRoundStep : ℕ → Option InWork → Machine → Machine → CoreReply → Type 0
IsRoundStep number None old new reply = (reply ≡ replies.Idle) × (new ≡ old)
IsRoundStep number (Some work) old new reply = RoundsWalk number work old new reply

-- a step with its reply: what is of the core and its walks before and after it
abbrev pub IsStep : Machine → CoreStep → CoreReply → Machine → Type 0
IsStep old (steps.Change entry) reply new = IsChangeReply old.core new.core entry reply × (new.walks ≡ old.walks)
IsStep old (steps.Ask user scenario wanted) reply new = IsAskStep old.core user scenario wanted old.walks new.walks reply × (new.core ≡ old.core)
IsStep old (steps.Solve number) reply new = IsSolveStep number (walk_at old.walks number) old.walks new.walks reply × (new.core ≡ old.core)
IsStep old (steps.Round number) reply new = IsRoundStep number (walk_at old.walks number) old new reply
IsStep old (steps.Tree user) reply new = IsTreeReply old.core user reply × (new ≡ old)
IsStep old steps.Point reply new = (reply ≡ replies.Point (point_of old.core)) × (new ≡ old)
IsStep old steps.Reclaim reply new = IsReclaimReply old.core new.core reply × (new.walks ≡ old.walks)

-- steps with their replies: each begins where the one before it ended
abbrev pub IsRun : Machine → List CoreStep → List CoreReply → Machine → Type 0
IsRun old [] [] new = new ≡ old
IsRun old (step ∷ later) (reply ∷ replies) new = (between : Machine) × IsStep old step reply between × IsRun between later replies new
IsRun old _ _ new = ⊥

-- a legal run of a core: no question was asked before it
pub record IsLegalRun (old : State) (asked : List CoreStep) (replied : List CoreReply) (new : State) : Type 0 where
  pub walks : Walks
  pub run : IsRun (unasked old) asked replied (record { core = new; walks = walks })

-- a core has taken the first of some steps, so many
pub record HasRunFirst (old : State) (asked : List CoreStep) (new : State) : Type 0 where
  pub count : ℕ
  pub few : count ≤ length asked
  pub replied : List CoreReply
  pub run : IsLegalRun old (take count asked) replied new

-- what holds of a walk in work: it can go on, what is lent to it is nothing or its whole frontier's results, and its cells are what their
-- ids mean after the core's history
pub record IsInWork (core : State) (work : InWork) : Type 0 where
  pub goes_on : IsOpen work.walk
  pub lent : IsSolved work.walk work.lent
  pub stands : Stands (meaning_of core) work.walk.job.cells

-- it holds of each
abbrev pub AreInWork : State → Walks → Type 0
AreInWork core walks = (number : ℕ) → IfSome (walk_at walks number) (IsInWork core)
