-- What the steps of a core are replied, and what is of the core and of a walk then.
use Rattle.std.specs.Prelude.{◌≡◌, ◌⊎◌, Bool, true, false, [], map, Option, Some, None, Ok, Err}
use Rattle.plan_schema.specs.declared.name.Name.{Name}
use Rattle.plan_schema.specs.declared.change.Entry.{Entry}
use Rattle.session_rules.specs.Answers.{trees}
use Rattle.walk_rules.specs.Cells.{records}
use Rattle.walk_rules.specs.Memo.{MemoRight}
use Rattle.walk_rules.specs.Walks.{results_of}
use Rattle.plan_jobs.specs.declared.job.Job.{Job}
use Rattle.plan_jobs.specs.declared.job.Wanted.{Wanted}
use Rattle.plan_jobs.specs.Jobs.{asked_by, wants_plan}
use Rattle.walk_names.specs.declared.trouble.Trouble.{Trouble}
use Rattle.walk_names.specs.declared.trouble.Trouble.TheVariants as troubles
use Rattle.walk_names.specs.Names.{IsTrouble}
use Rattle.plan_walk.specs.declared.round.Round.{Round}
use Rattle.plan_walk.specs.declared.round.Round.TheVariants.{Done, More}
use Rattle.plan_walk.specs.View.{View}
use Rattle.plan_walk.specs.Walk.{Begins, IsOpen, EndsSettled}
use Rattle.plan_core.specs.State.{State, point_of, world_of, meaning_of}
use Rattle.plan_core.specs.Changes.{IsChangeAnswer}
use Rattle.plan_core.specs.Asks.{IsAsked, IsAskTrouble}
use Rattle.plan_core.specs.Rounds.{HasRound, IsCutShort}
use Rattle.plan_core.specs.Reclaims.{IsReclaimed}
use Rattle.core_runs.specs.declared.step.CoreReply.{CoreReply}
use Rattle.core_runs.specs.declared.step.CoreReply.TheVariants as replies
use Rattle.core_runs.specs.declared.in_work.InWork.{InWork}

-- the reply where a core's call has this trouble
abbrev pub trouble_reply : Trouble → CoreReply
trouble_reply (troubles.Refused point refusal) = replies.Refused point refusal
trouble_reply troubles.Memory = replies.Memory

-- a change: it is entered and its number is replied; or its first refusal is replied, or that there was no memory, and nothing changes
abbrev pub IsChangeReply : State → State → Entry → CoreReply → Type 0
IsChangeReply old new entry (replies.Point number) = IsChangeAnswer old new entry (Ok number)
IsChangeReply old new entry (replies.Refused point refusal) = IsChangeAnswer old new entry (Err (troubles.Refused point refusal))
IsChangeReply old new entry replies.Memory = IsChangeAnswer old new entry (Err troubles.Memory)
IsChangeReply old new entry _ = ⊥

-- the walk that a job begins: one of which nothing is known and to which nothing is lent, where it is about plans, and else none
abbrev pub IsWalkOf : Job → Bool → Option InWork → Type 0
IsWalkOf job true (Some work) = Begins job work.walk × IsOpen work.walk × (work.lent ≡ [])
IsWalkOf job true None = ⊥
IsWalkOf job false walk = walk ≡ None

-- a job, or why it has no walk: the first refusal of the plan that needs no plans is replied at the job's point; or there was no memory
abbrev pub IsWalkReply : Job → CoreReply → Option InWork → Type 0
IsWalkReply job (replies.Job point) walk = (point ≡ job.point) × IsWalkOf job (wants_plan job.wanted) walk
IsWalkReply job (replies.Refused point refusal) walk =
    (wants_plan job.wanted ≡ true) × IsTrouble (records job.cells) (asked_by (records job.cells) job.wanted) job.point (troubles.Refused point refusal) × (walk ≡ None)
IsWalkReply job replies.Memory walk = (wants_plan job.wanted ≡ true) × (walk ≡ None)
IsWalkReply job _ walk = ⊥

-- a question that the user may ask, with its job
pub record IsJobReply (core : State) (user scenario : Name) (wanted : Wanted) (reply : CoreReply) (walk : Option InWork) : Type 0 where
  pub job : Job
  pub asked : IsAsked core user scenario wanted job
  pub replied : IsWalkReply job reply walk

-- a question without a job: the user may not ask it, or there was no memory for the job
pub record IsNoJobReply (core : State) (user scenario : Name) (reply : CoreReply) (walk : Option InWork) : Type 0 where
  pub trouble : Trouble
  pub why : IsAskTrouble core user scenario trouble
  pub replied : reply ≡ trouble_reply trouble
  pub none : walk ≡ None

-- what a question is replied, and the walk that it begins
abbrev pub IsAskReply : State → Name → Name → Wanted → CoreReply → Option InWork → Type 0
IsAskReply core user scenario wanted reply walk = IsJobReply core user scenario wanted reply walk ⊎ IsNoJobReply core user scenario reply walk

-- the results of a walk's frontier are lent to it, one for each of its parts, in order
pub record IsLent (old new : InWork) : Type 0 where
  pub lent : new ≡ record old { lent = results_of old.walk.job.cells old.walk.parts }
  pub whole : map (λ result. result.0) (results_of old.walk.job.cells old.walk.parts) ≡ old.walk.front

-- netting for a walk: its frontier's results are lent to it; or there was no memory, and it is as before
abbrev pub IsNetted : InWork → InWork → CoreReply → Type 0
IsNetted old new replies.Solved = IsLent old new
IsNetted old new replies.Memory = new ≡ old
IsNetted old new _ = ⊥

-- what is left of a walk after a round: at its end it is out of work; else nothing is lent to it
abbrev pub left_after : Round → View → Option InWork
left_after Done walk = None
left_after More walk = Some (record { walk = walk; lent = [] })

-- a round: what was lent is taken in and then all hits of the memo are; it is told whether each part is settled, and each value that is
-- known is the plan's
pub record IsRound (old new : State) (work : InWork) (round : Round) (left : Option InWork) : Type 0 where
  pub walk : View
  pub made : HasRound old new work.walk walk work.lent round
  pub ends : EndsSettled walk round
  pub goes_on : IsOpen walk
  pub job : walk.job ≡ work.walk.job
  pub left_is : left ≡ left_after round walk

-- a round for which there was no memory: the memo alone may have changed, it is right, and the walk is out of work
pub record IsCut (old new : State) (left : Option InWork) : Type 0 where
  pub short : IsCutShort old new
  pub right : MemoRight (meaning_of new) new.pairs
  pub left_is : left ≡ None

abbrev pub IsRoundReply : State → State → InWork → CoreReply → Option InWork → Type 0
IsRoundReply old new work (replies.Round round) left = IsRound old new work round left
IsRoundReply old new work replies.Memory left = IsCut old new left
IsRoundReply old new work _ left = ⊥

-- the lines of the scenarios that the user may use, with the number of entries
abbrev pub IsTreeReply : State → Name → CoreReply → Type 0
IsTreeReply core user (replies.Lines point lines) = (point ≡ point_of core) × (lines ≡ trees (world_of core) user)
IsTreeReply core user replies.Memory = Unit {0}
IsTreeReply core user _ = ⊥

-- a reclaim: the number of entries is replied, and the memo keeps the pairs whose ids are all live; or there was no memory, and nothing
-- changes
abbrev pub IsReclaimReply : State → State → CoreReply → Type 0
IsReclaimReply old new (replies.Point point) = (point ≡ point_of old) × IsReclaimed old new
IsReclaimReply old new replies.Memory = new ≡ old
IsReclaimReply old new _ = ⊥
