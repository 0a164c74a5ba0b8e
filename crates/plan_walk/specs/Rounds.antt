-- Rounds of a walk, from its first settling to its end.
use Rattle.std.specs.Prelude.{◌≡◌, ℕ, ◌+◌, ◌<◌, List, [], true, map, unwrap_or}
use Rattle.std.specs.List.{AllByRecursion}
use Rattle.plan_schema.specs.declared.name.Name.{Name}
use Rattle.planning_rules.specs.Bills.{level}
use Rattle.planning_rules.specs.Plan.{Known}
use Rattle.walk_rules.specs.Cells.{Cells, records}
use Rattle.walk_rules.specs.Memo.{Pairs}
use Rattle.walk_rules.specs.Walks.{names_of, frontier, work_of}
use Rattle.plan_jobs.specs.declared.job.Job.{Job}
use Rattle.plan_jobs.specs.declared.job.Wanted.{Wanted}
use Rattle.plan_jobs.specs.Jobs.{IsJob, asked_by, wants_plan}
use Rattle.walk_names.specs.Names.{AreWalkNames}
use Rattle.plan_walk.specs.declared.round.Round.{Round}
use Rattle.plan_walk.specs.declared.round.Tally.{Tally}
use Rattle.plan_walk.specs.View.{View}
use Rattle.plan_walk.specs.Walk.{Begins, IsOpen, Settles, left}

-- each settling that takes in the results of a frontier that isn't empty leaves fewer parts of which nothing is known
abbrev pub RoundsEnd : Type 0
RoundsEnd = (old new : View) (first pairs : Pairs) (most : ℕ) (solved : List (Name × Known)) (round : Round) (work : Tally)
    → Settles old new first pairs most solved round work → map (λ r. r.0) solved ≡ old.front → IsOpen old → (old.front ≡ [] → ⊥)
    → left new.parts < left old.parts

-- a walk of a job after so many settlings: the first takes in no results, and each further one those of the whole frontier
pub data Walked (job : Job) : ℕ → View → Type 0 where
  at_first : (w new : View) (first pairs : Pairs) (most : ℕ) (round : Round) (tally : Tally)
      → Begins job w → Settles w new first pairs most [] round tally → new.job ≡ w.job → IsOpen new → Walked job 1 new
  later : (count : ℕ) (w new : View) (first pairs : Pairs) (most : ℕ) (solved : List (Name × Known)) (round : Round) (tally : Tally)
      → Walked job count w → Settles w new first pairs most solved round tally → map (λ r. r.0) solved ≡ w.front
      → new.job ≡ w.job → IsOpen new → Walked job (count + 1) new

-- a walk is at its end after as many settlings as its parts have levels, and one
abbrev pub EndsWithLevels : Type 0
EndsWithLevels = (job : Job) (levels : ℕ) (w : View) → Walked job (levels + 1) w
    → AllByRecursion (λ n. unwrap_or (level (records job.cells) n) 0 < levels) (names_of w.parts)
    → w.front ≡ []

-- the rounds that the definition of a query's work looks at are enough: they leave no frontier
abbrev pub WorkIsEnough : Type 0
WorkIsEnough = (wanted : Wanted) (cells : Cells) (names : List Name) (most : ℕ) (pairs : Pairs) (netted reused : ℕ)
    → IsJob wanted cells → wants_plan wanted ≡ true → AreWalkNames (records cells) (asked_by (records cells) wanted) names
    → frontier (records cells) (work_of cells names most pairs netted reused).parts ≡ []
