-- Walks that are traced.
use Rattle.std.specs.Prelude.{◌≡◌, ℕ, ◌≤◌, ◌<◌, ◌^◌, List, true, sum, take, length, Contains}
use Rattle.plan_schema.specs.declared.name.Name.{Name}
use Rattle.plan_schema.specs.Contents.{Contents}
use Rattle.planning_rules.specs.Plan.{plan, released, has_outcome}
use Rattle.planning_rules.specs.Pegs.{Peg, FromDemand, FromParent}
use Rattle.walk_rules.specs.Cells.{records}
use Rattle.walk_rules.specs.Walks.{Parts, names_of, known_at}
use Rattle.plan_jobs.specs.Jobs.{IsJob, wants_plan}
use Rattle.walk_names.specs.Names.{AreWalkNames}
use Rattle.plan_walk.specs.View.{View}
use Rattle.part_pegs.specs.Planned.{ArePlanned}

-- what has to be known of a parent, so that units of a day can be handed on to it
pub record IsParent (c : Contents) (parts : Parts) (t : ℕ) (parent : Name) : Type 0 where
  pub there : Contains (names_of parts) parent
  pub known : known_at parts parent ≡ plan c parent
  pub outcome : has_outcome (known_at parts parent) ≡ true
  pub days : t ≤ length (released (known_at parts parent))
  pub fits : sum (take t (released (known_at parts parent))) < 2 ^ 64

-- and of a peg of a day, so that its units can be followed
abbrev pub CanAim : Contents → Parts → ℕ → Peg → Type 0
CanAim c parts t (FromDemand order qty) = Unit {0}
CanAim c parts t (FromParent parent qty) = IsParent c parts t parent

-- a walk can be traced: it is that of a question about plans none of which is refused, and it knows all of them
pub record IsTraced (w : View) (asked : List Name) : Type 0 where
  pub planned : ArePlanned (records w.job.cells) asked (known_at w.parts)
  pub names : AreWalkNames (records w.job.cells) asked (names_of w.parts)
  pub is_job : IsJob w.job.wanted w.job.cells
  pub wants : wants_plan w.job.wanted ≡ true

abbrev pub CanTrace : View → Type 0
CanTrace w = (asked : List Name) × IsTraced w asked
