use Rattle.std.proofs.Common.{◌≡◌, ◌+◌, ◌<◌, ℕ, false, length, drop, slice_index_or}
use Rattle.std.specs.Prelude.{◌||◌, ◌==◌}
use Rattle.std.specs.List.{list_any}
use Rattle.plan_audit.proofs.lost.marks_of.Given as goal

abbrev pub invariant-loop-point : goal.invariant-loop-point
invariant-loop-point l =
    (length l.marks.items ≡ l.count)
    × ((k : ℕ) → k < l.count → (slice_index_or l.marks.items k false || list_any (λ p. p == k + 1) (drop l.point-index l.points)) ≡ list_any (λ p. p == k + 1) l.points)
