use Rattle.std.proofs.Common.{◌≡◌, ℕ, false, length, slice_index_or}
use Rattle.plan_audit.proofs.lost.unmarked.Given as goal

abbrev pub invariant-loop-place : goal.invariant-loop-place
invariant-loop-place l = (length l.marks.items ≡ l._place) × ((k : ℕ) → slice_index_or l.marks.items k false ≡ false)
