-- The calls of a book in a turn, each with what its answer tells of the book that was taken and the one that was given back.
use Rattle.std.specs.Prelude.{◌≡◌, ℕ, List, Result, IfOk, IfErr, OnOk, OnErr}
use Rattle.plan_schema.specs.declared.name.Name.{Name}
use Rattle.plan_schema.specs.declared.change.Entry.{Entry}
use Rattle.planning_rules.specs.Plan.{Known}
use Rattle.plan_jobs.specs.declared.job.Job.{Job}
use Rattle.plan_jobs.specs.declared.job.Wanted.{Wanted}
use Rattle.plan_walk.specs.declared.round.Round.{Round}
use Rattle.plan_walk.specs.View.{View}
use Rattle.plan_core.specs.Asks.{IsAsked}
use Rattle.plan_core.specs.Rounds.{HasRound, IsCutShort}
use Rattle.plan_core.specs.Reclaims.{IsReclaimed}
use Rattle.plan_book.specs.declared.ground.Ground.{Ground}
use Rattle.plan_book.specs.declared.fault.BookFault.{BookFault}
use Rattle.plan_book.specs.declared.fault.BookFault.TheVariants.{Memory}
use Rattle.plan_book.specs.Books.{Story, Work, state_by, point_by, IsSameStory}
use Rattle.plan_book.specs.Answers.{HasChanged, HasWorked, IsAskFault, IsTree}

-- the meanings of the book come first
module _ {B : Type 0} (story : B → Story) (faults : B → ℕ) (basis : B → Ground) (work : B → Work) where
  -- a change
  pub record Changes (entry : Entry) (taken given : B) (answer : Result ℕ BookFault) : Type 0 where
    pub changed : HasChanged story faults basis taken given entry answer
    pub worked : HasWorked (state_by story basis work taken) (state_by story basis work given) answer

  -- a question
  pub record Asks (user scenario : Name) (wanted : Wanted) (taken given : B) (answer : Result Job BookFault) : Type 0 where
    pub same : given ≡ taken
    pub ok : IfOk answer (IsAsked (state_by story basis work taken) user scenario wanted)
    pub err : IfErr answer (IsAskFault (state_by story basis work taken) user scenario)

  -- the scenarios of a user
  pub record TellsTree (user : Name) (taken given : B) (answer : Result (ℕ × List (List ℕ)) BookFault) : Type 0 where
    pub same : given ≡ taken
    pub ok : IfOk answer (IsTree (state_by story basis work taken) user)
    pub err : IfErr answer (λ fault. fault ≡ Memory)

  -- a round of a walk
  pub record MakesRound (walk walk_then : View) (solved : List (Name × Known)) (taken given : B) (answer : Result Round BookFault) : Type 0 where
    pub told : IsSameStory story faults basis taken given
    pub ok : IfOk answer (HasRound (state_by story basis work taken) (state_by story basis work given) walk walk_then solved)
    pub cut : OnErr answer (IsCutShort (state_by story basis work taken) (state_by story basis work given))
    pub err : IfErr answer (λ fault. fault ≡ Memory)

  -- a reclaim
  pub record Reclaims (taken given : B) (answer : Result ℕ BookFault) : Type 0 where
    pub told : IsSameStory story faults basis taken given
    pub point : IfOk answer (λ point. point ≡ point_by story basis taken)
    pub ok : OnOk answer (IsReclaimed (state_by story basis work taken) (state_by story basis work given))
    pub kept : OnErr answer (work given ≡ work taken)
    pub err : IfErr answer (λ fault. fault ≡ Memory)

  -- the number of entries
  pub record TellsPoint (taken given : B) (answer : Result ℕ BookFault) : Type 0 where
    pub same : given ≡ taken
    pub ok : IfOk answer (λ point. point ≡ point_by story basis taken)
    pub err : OnErr answer ⊥
