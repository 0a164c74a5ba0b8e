-- What a settling of a walk needs of it.
use Rattle.std.proofs.Common.{◌≡◌, ℕ, inl, inr, List, [], ◌∷◌, length, sym, ◌∙◌, subst}
use Rattle.std.specs.Prelude.{Option}
use Rattle.std.specs.List.{AllByRecursion}
use Rattle.plan_schema.specs.declared.name.Name.{Name}
use Rattle.planning_rules.specs.Plan.{Known}
use Rattle.record_versions.specs.declared.version.VersionId.{VersionId}
use Rattle.version_rules.specs.Meaning.{Meaning}
use Rattle.walk_rules.specs.Cells.{Cells, records, Stands}
use Rattle.walk_rules.specs.Memo.{Pairs}
use Rattle.walk_rules.specs.Walks.{Parts, names_of}
use Rattle.walk_rules.specs.Rights.{HasCells, AreRight, IsResult}
use Rattle.walk_rules.proofs.TookRight.{results_right}
use Rattle.plan_jobs.specs.declared.job.Job.{Job}
use Rattle.plan_walk.specs.declared.node.Node.{Node}
use Rattle.plan_walk.specs.Places.{parts_of}
use Rattle.plan_walk.specs.Nodes.{node_names, names_at}
use Rattle.plan_walk.specs.Settled.{AreSound}
use Rattle.plan_walk.specs.Walk.{CanStep, IsWalk, IsSolved}
use Rattle.plan_jobs.proofs.Rows.{apart}
use Rattle.plan_walk.proofs.Places.{names_place}
use Rattle.plan_walk.proofs.SoFar.{names_long}

pub have_cells : (cells : Cells) (ns : List Name) → AllByRecursion (CanStep cells) ns → AllByRecursion (HasCells cells) ns
have_cells cells [] h = tt
have_cells cells (n ∷ ns) h = (h.0.cells_held, have_cells cells ns h.1)

-- results that are none, or those of the frontier, are results
solved_right : (parts : Parts) (pairs : Pairs) (front : List Name) (job : Job) (ns : List Name) → names_of parts ≡ ns → AllByRecursion (HasCells job.cells) ns → AreRight (records job.cells) parts → (solved : List (Name × Known))
    → IsSolved (record { job = job; parts = parts; front = front }) solved → AllByRecursion (IsResult job.cells (record { parts = parts; pairs = pairs; netted = 0; reused = 0 })) solved
solved_right parts pairs front job ns names has right solved (inl none) = subst (AllByRecursion (IsResult job.cells (record { parts = parts; pairs = pairs; netted = 0; reused = 0 }))) (sym none) tt
solved_right parts pairs front job ns names has right solved (inr all) =
    subst (AllByRecursion (IsResult job.cells (record { parts = parts; pairs = pairs; netted = 0; reused = 0 }))) (sym all.0)
    (results_right job.cells (record { parts = parts; pairs = pairs; netted = 0; reused = 0 }) right (names_of parts) (subst (AllByRecursion (HasCells job.cells)) (sym names) has))

-- what a right memo needs of a walk to stay right
pub sound_of : (m : Meaning) (job : Job) (plan : VersionId) (nodes : List Node) (known : List (Option Known)) (n : ℕ) (front : List ℕ) (ns : List Name) → IsWalk job plan nodes n front ns → length known ≡ length nodes
    → (pairs : Pairs) (results : List (Name × Known)) → AreRight (records job.cells) (parts_of (node_names nodes) known)
    → IsSolved (record { job = job; parts = parts_of (node_names nodes) known; front = names_at (node_names nodes) front }) results → Stands m job.cells → AreSound m job.cells nodes known pairs results
sound_of m job plan nodes known n front ns w whole pairs results right solved stands = record {
  meant = record { own = w.is_job.own; apart = apart job.cells w.is_job.ascending; stands = stands };
  has = have_cells job.cells (node_names nodes) w.steps;
  known = right;
  results_are = solved_right (parts_of (node_names nodes) known) pairs (names_at (node_names nodes) front) job (node_names nodes)
      (names_place (node_names nodes) known (whole ∙ sym (names_long nodes))) (have_cells job.cells (node_names nodes) w.steps) right results solved;
}
