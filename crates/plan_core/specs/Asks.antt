-- What a core answers to a question.
use Rattle.std.specs.Prelude.{◌≡◌, ℕ, Some, None}
use Rattle.plan_schema.specs.declared.name.Name.{Name}
use Rattle.plan_schema.specs.declared.refusal.Refusal.{Refusal}
use Rattle.scenario_rules.specs.World.{contents_in}
use Rattle.scenario_rules.specs.Refused.{access_refusal}
use Rattle.walk_rules.specs.Cells.{Stands}
use Rattle.plan_jobs.specs.declared.job.Job.{Job}
use Rattle.plan_jobs.specs.declared.job.Wanted.{Wanted}
use Rattle.plan_jobs.specs.Jobs.{IsJob}
use Rattle.plan_jobs.specs.Collects.{IsCollected}
use Rattle.walk_names.specs.declared.trouble.Trouble.{Trouble}
use Rattle.walk_names.specs.declared.trouble.Trouble.TheVariants.{Refused, Memory}
use Rattle.plan_core.specs.State.{State, point_of, world_of, meaning_of}

-- a job: the user may use the scenario; its point is the number of entries, it wants what was asked for, and its cells are those that are
-- wanted of the scenario's contents after all entries, each what its id means
pub record IsAsked (core : State) (user scenario : Name) (wanted : Wanted) (job : Job) : Type 0 where
  pub allowed : access_refusal (world_of core) user scenario ≡ None
  pub point_is : job.point ≡ point_of core
  pub wanted_is : job.wanted ≡ wanted
  pub is_job : IsJob wanted job.cells
  pub collected : IsCollected (contents_in (world_of core) scenario) wanted job.cells
  pub stands : Stands (meaning_of core) job.cells

-- the user may not use the scenario: the refusal is answered with the number of entries
pub record IsBarred (core : State) (user scenario : Name) (point : ℕ) (refusal : Refusal) : Type 0 where
  pub first : access_refusal (world_of core) user scenario ≡ Some refusal
  pub point_is : point ≡ point_of core

-- why a question has no job: no access, for which want of memory never stands, or no memory for the job
abbrev pub IsAskTrouble : State → Name → Name → Trouble → Type 0
IsAskTrouble core user scenario (Refused point refusal) = IsBarred core user scenario point refusal
IsAskTrouble core user scenario Memory = access_refusal (world_of core) user scenario ≡ None
