use Rattle.std.proofs.Common.{◌≡◌, ◌+◌, ◌<◌, ◌≤◌, ℕ, [], length, get_or}
use Rattle.planning_rules.specs.Trace.{End}
use Rattle.walk_rules.specs.Cells.{records}
use Rattle.walk_rules.specs.Walks.{names_of}
use Rattle.full_pegging.specs.Ends.{ends_by}
use Rattle.full_pegging.specs.Following.{landed_weight, waiting_weight}
use Rattle.full_pegging.specs.declared.follow.PartRows.{PartRows}
use Rattle.full_pegging.proofs.trail.follow_all.Given as goal

abbrev pub invariant-loop-place : goal.invariant-loop-place
invariant-loop-place l =
    ((measure : End → ℕ) → landed_weight measure l.landed.items + waiting_weight (ends_by measure (records l.walk.job.cells) (names_of l.walk.parts)) l.waiting
    ≡ landed_weight measure l.initial.landed.items + waiting_weight (ends_by measure (records l.walk.job.cells) (names_of l.walk.parts)) l.initial.waiting)
    × ((k : ℕ) (d : PartRows) → l.place ≤ k → k < length l.waiting → (get_or l.waiting k d).rows.items ≡ [])
    × (l.place ≤ length l.waiting)

abbrev pub decreases-loop-place : goal.decreases-loop-place
decreases-loop-place l = l.place
