-- What holds of the walks in work holds after each step.
use Rattle.std.proofs.Common.{◌≡◌, ℕ, refl, sym, ap, subst, inl, inr, Bool, true, false}
use Rattle.std.specs.Prelude.{Option, Some, None, IfSome}
use Rattle.plan_schema.specs.declared.name.Name.{Name}
use Rattle.walk_rules.specs.Cells.{Stands}
use Rattle.plan_jobs.specs.declared.job.Job.{Job}
use Rattle.plan_jobs.specs.declared.job.Wanted.{Wanted}
use Rattle.plan_jobs.specs.Jobs.{wants_plan}
use Rattle.plan_walk.specs.declared.round.Round.{Round}
use Rattle.plan_walk.specs.declared.round.Round.TheVariants.{Done, More}
use Rattle.plan_walk.specs.View.{View}
use Rattle.plan_walk.specs.Walk.{IsOpen}
use Rattle.plan_core.specs.State.{State, meaning_of}
use Rattle.core_runs.specs.declared.step.CoreStep.{CoreStep}
use Rattle.core_runs.specs.declared.step.CoreStep.TheVariants as steps
use Rattle.core_runs.specs.declared.step.CoreReply.{CoreReply}
use Rattle.core_runs.specs.declared.step.CoreReply.TheVariants as replies
use Rattle.core_runs.specs.declared.in_work.InWork.{InWork}
use Rattle.core_runs.specs.Machine.{Machine, Walks, walk_at}
use Rattle.core_runs.specs.Replies.{IsWalkOf, IsWalkReply, IsAskReply, IsNetted, IsRoundReply, left_after}
use Rattle.core_runs.specs.Runs.{IsStep, IsSolveStep, IsRoundStep, IsInWork, AreInWork}
use Rattle.core_runs.proofs.Listed.{each_set, each_more, if_some_as}
use Rattle.core_runs.proofs.Later.{IsLater, step_later, cells_later}

-- a later core
work_later : (old new : State) → IsLater old new → (work : InWork) → IsInWork old work → IsInWork new work
work_later old new later work h = record { goes_on = h.goes_on; lent = h.lent; stands = cells_later old new later work.walk.job.cells h.stands }

all_later : (old new : State) → IsLater old new → (walks : Walks) → AreInWork old walks → AreInWork new walks
all_later old new later walks h number = if_some_as (IsInWork old) (IsInWork new) (walk_at walks number) (work_later old new later) (h number)

-- a question ---------------------------------------------------------------------------------------------------------------------------

module _ (core : State) where
  no_walk : (walk : Option InWork) → walk ≡ None → IfSome walk (IsInWork core)
  no_walk walk none = subst (λ (o : Option InWork). IfSome o (IsInWork core)) (sym none) tt

  walk_in_work : (job : Job) (plans : Bool) (walk : Option InWork) → Stands (meaning_of core) job.cells → IsWalkOf job plans walk → IfSome walk (IsInWork core)
  walk_in_work job true (Some work) stands h = record {
    goes_on = h.1;
    lent = inl h.2;
    stands = subst (λ (j : Job). Stands (meaning_of core) j.cells) (sym h.0.job_is) stands;
  }
  walk_in_work job true None stands h = absurd h
  walk_in_work job false walk stands none = no_walk walk none

  reply_in_work : (job : Job) (reply : CoreReply) (walk : Option InWork) → Stands (meaning_of core) job.cells → IsWalkReply job reply walk → IfSome walk (IsInWork core)
  reply_in_work job (replies.Job point) walk stands h = walk_in_work job (wants_plan job.wanted) walk stands h.1
  reply_in_work job (replies.Refused point refusal) walk stands h = no_walk walk h.2
  reply_in_work job replies.Memory walk stands h = no_walk walk h.1
  reply_in_work job _ walk stands h = absurd h

  asked_in_work : (user scenario : Name) (wanted : Wanted) (reply : CoreReply) (walk : Option InWork) → IsAskReply core user scenario wanted reply walk → IfSome walk (IsInWork core)
  asked_in_work user scenario wanted reply walk h = elim h [
    | inl asked ↦ reply_in_work asked.job reply walk asked.asked.stands asked.replied
    | inr not ↦ no_walk walk not.none
  ]

  -- netting ------------------------------------------------------------------------------------------------------------------------------

  netted_in_work : (work left : InWork) (reply : CoreReply) → IsInWork core work → IsNetted work left reply → IsInWork core left
  netted_in_work work left replies.Solved h netted = subst (IsInWork core) (sym netted.lent) (record { goes_on = h.goes_on; lent = inr (refl, netted.whole); stands = h.stands })
  netted_in_work work left replies.Memory h same = subst (IsInWork core) (sym same) h
  netted_in_work work left _ h netted = absurd netted

  solved_in_work : (number : ℕ) (o : Option InWork) (old new : Walks) (reply : CoreReply) → IfSome o (IsInWork core) → AreInWork core old → IsSolveStep number o old new reply → AreInWork core new
  solved_in_work number None old new reply here each h = subst (AreInWork core) (sym h.1) each
  solved_in_work number (Some work) old new reply here each h =
      subst (AreInWork core) (sym h.listed) (each_set (IsInWork core) old number (Some h.left) each (netted_in_work work h.left reply here h.netted))

-- a round ------------------------------------------------------------------------------------------------------------------------------

left_in_work : (core : State) (round : Round) (walk : View) → IsOpen walk → Stands (meaning_of core) walk.job.cells → IfSome (left_after round walk) (IsInWork core)
left_in_work core Done walk goes_on stands = tt
left_in_work core More walk goes_on stands = record { goes_on = goes_on; lent = inl refl; stands = stands }

round_in_work : (old new : State) (work : InWork) (reply : CoreReply) (left : Option InWork) → IsLater old new → IsInWork old work → IsRoundReply old new work reply left → IfSome left (IsInWork new)
round_in_work old new work (replies.Round round) left later h made =
    subst (λ (o : Option InWork). IfSome o (IsInWork new)) (sym made.left_is)
    (left_in_work new round made.walk made.goes_on
    (subst (λ (j : Job). Stands (meaning_of new) j.cells) (sym made.job) (cells_later old new later work.walk.job.cells h.stands)))
round_in_work old new work replies.Memory left later h cut = no_walk new left cut.left_is
round_in_work old new work _ left later h made = absurd made

rounded_in_work : (number : ℕ) (o : Option InWork) (old new : Machine) (reply : CoreReply) → IsLater old.core new.core → IfSome o (IsInWork old.core) → AreInWork old.core old.walks
    → IsRoundStep number o old new reply → AreInWork new.core new.walks
rounded_in_work number None old new reply later here each h = subst (λ (m : Machine). AreInWork m.core m.walks) (sym h.1) each
rounded_in_work number (Some work) old new reply later here each h =
    subst (AreInWork new.core) (sym h.listed)
    (each_set (IsInWork new.core) old.walks number h.left (all_later old.core new.core later old.walks each) (round_in_work old.core new.core work reply h.left later here h.replied))

-- each step ----------------------------------------------------------------------------------------------------------------------------

pub step_in_work : (old : Machine) (step : CoreStep) (reply : CoreReply) (new : Machine) → IsStep old step reply new → AreInWork old.core old.walks → AreInWork new.core new.walks
step_in_work old step reply new h each = by_step step h
  where
    same_walks : IsLater old.core new.core → new.walks ≡ old.walks → AreInWork new.core new.walks
    same_walks later same = subst (AreInWork new.core) (sym same) (all_later old.core new.core later old.walks each)

    same_core : new.core ≡ old.core → AreInWork old.core new.walks → AreInWork new.core new.walks
    same_core same h = subst (λ (core : State). AreInWork core new.walks) (sym same) h

    by_step : (s : CoreStep) → IsStep old s reply new → AreInWork new.core new.walks
    by_step (steps.Change entry) h = same_walks (step_later old (steps.Change entry) reply new h) h.1
    by_step (steps.Ask user scenario wanted) h =
        same_core h.1 (subst (AreInWork old.core) (sym h.0.listed)
        (each_more (IsInWork old.core) old.walks h.0.walk each (asked_in_work old.core user scenario wanted reply h.0.walk h.0.replied)))
    by_step (steps.Solve number) h = same_core h.1 (solved_in_work old.core number (walk_at old.walks number) old.walks new.walks reply (each number) each h.0)
    by_step (steps.Round number) h = rounded_in_work number (walk_at old.walks number) old new reply (step_later old (steps.Round number) reply new h) (each number) each h
    by_step (steps.Tree user) h = same_walks (step_later old (steps.Tree user) reply new h) (ap (λ (m : Machine). m.walks) h.1)
    by_step steps.Point h = same_walks (step_later old steps.Point reply new h) (ap (λ (m : Machine). m.walks) h.1)
    by_step steps.Reclaim h = same_walks (step_later old steps.Reclaim reply new h) h.1
