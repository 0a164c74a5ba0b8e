-- What holds of walks.
use Rattle.std.specs.Prelude.{◌≡◌, ℕ, ◌<◌, ◌⊎◌, List, [], true, if◌then◌else◌, Some, is_none, count_by, map, length, slice_get}
use Rattle.std.specs.List.{AllByRecursion}
use Rattle.plan_schema.specs.declared.name.Name.{Name}
use Rattle.planning_rules.specs.Plan.{Known, has_calendar}
use Rattle.planning_rules.specs.Refused.{is_part}
use Rattle.record_versions.specs.declared.version.VersionId.{VersionId}
use Rattle.walk_rules.specs.Cells.{Cells, records}
use Rattle.walk_rules.specs.Memo.{Pairs}
use Rattle.walk_rules.specs.Rights.{HasCells, AreRight}
use Rattle.walk_rules.specs.Steps.{calendar_in}
use Rattle.walk_rules.specs.Walks.{State, Parts, names_of, unknown, frontier, results_of, is_empty, IsSettled, Took, with_hits}
use Rattle.walk_rules.specs.Works.{AreUpward}
use Rattle.plan_jobs.specs.declared.job.Job.{Job}
use Rattle.plan_jobs.specs.Jobs.{IsJob, asked_by}
use Rattle.walk_names.specs.Names.{AreWalkNames}
use Rattle.plan_walk.specs.declared.node.Node.{Node}
use Rattle.plan_walk.specs.declared.round.Tally.{Tally}
use Rattle.plan_walk.specs.declared.round.Round.{Round}
use Rattle.plan_walk.specs.declared.round.Round.TheVariants.{Done, More}
use Rattle.plan_walk.specs.Nodes.{IsGraph, Fits, node_names}
use Rattle.plan_walk.specs.View.{View}

-- a name is a part with its cells and its calendar
pub record CanStep (cells : Cells) (n : Name) : Type 0 where
  pub cells_held : HasCells cells n
  pub part : is_part (records cells) n ≡ true
  pub calendar : has_calendar (records cells) (calendar_in (records cells) n) ≡ true

-- the fields of a walk fit its job
pub record IsWalk (job : Job) (plan : VersionId) (nodes : List Node) (known : ℕ) (front : List ℕ) (numbers : List Name) : Type 0 where
  pub is_job : IsJob job.wanted job.cells
  pub graph : IsGraph nodes
  pub fits : Fits job.cells plan nodes
  pub whole : known ≡ length nodes
  pub names : AreWalkNames (records job.cells) (asked_by (records job.cells) job.wanted) (node_names nodes)
  pub steps : AllByRecursion (CanStep job.cells) (node_names nodes)
  pub places : (k q : ℕ) → slice_get front k ≡ Some q → q < length nodes
  pub numbered : numbers ≡ node_names nodes

-- a walk of a job begins: its parts are those in reach of the asked ones, by level and then by name, and nothing is known of them
pub record Begins (job : Job) (w : View) : Type 0 where
  pub job_is : w.job ≡ job
  pub names : AreWalkNames (records job.cells) (asked_by (records job.cells) job.wanted) (names_of w.parts)
  pub nothing : w.parts ≡ unknown (names_of w.parts)

-- what holds of each walk: its cells are those of a job, and its parts are those in reach of the names that the job asks for, each after its
-- parents, where none of the first four refusals of the plan applies
pub record WalksItsJob (w : View) : Type 0 where
  pub is_job : IsJob w.job.wanted w.job.cells
  pub names : AreWalkNames (records w.job.cells) (asked_by (records w.job.cells) w.job.wanted) (names_of w.parts)
  pub upward : AreUpward (records w.job.cells) [] (names_of w.parts)

-- a walk that can go on: its frontier is that of the definition, and each value that is known is the plan's
pub record IsOpen (w : View) : Type 0 where
  pub front : w.front ≡ frontier (records w.job.cells) w.parts
  pub right : AreRight (records w.job.cells) w.parts

-- results are none, or those of the whole frontier
abbrev pub IsSolved : View → List (Name × Known) → Type 0
IsSolved w solved = (solved ≡ []) ⊎ ((solved ≡ results_of w.job.cells w.parts) × (map (λ r. r.0) solved ≡ w.front))

abbrev pub round_of : List Name → Round
round_of front = if is_empty front then Done else More

-- how many parts nothing is known of
abbrev pub left : Parts → ℕ
left parts = count_by (λ part. is_none part.known) parts

-- one settling: the results are taken in, in order, with so many dropped, and then all hits are
pub record Settles (old new : View) (first pairs : Pairs) (most : ℕ) (solved : List (Name × Known)) (round : Round) (tally : Tally) : Type 0 where
  pub middle : State
  pub took : Took old.job.cells most (record { parts = old.parts; pairs = first; netted = 0; reused = 0 }) solved tally.dropped middle
  pub hits : with_hits old.job.cells middle ≡ record { parts = new.parts; pairs = pairs; netted = tally.netted; reused = tally.reused }
  pub front : new.front ≡ frontier (records old.job.cells) new.parts
  pub done : round ≡ round_of new.front

-- a walk is at its end exactly where each of its parts is settled; else some are to be netted next
pub record EndsSettled (w : View) (round : Round) : Type 0 where
  pub all : round ≡ Done → AllByRecursion (IsSettled (records w.job.cells) w.parts) (names_of w.parts)
  pub exact : AllByRecursion (IsSettled (records w.job.cells) w.parts) (names_of w.parts) → round ≡ Done
  pub more : round ≡ More → w.front ≡ [] → ⊥
