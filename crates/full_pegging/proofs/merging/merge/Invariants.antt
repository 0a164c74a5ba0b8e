use Rattle.std.proofs.Common.{◌≡◌, ◌+◌, ℕ, vec_len}
use Rattle.full_pegging.specs.Rows.{rows_weight}
use Rattle.full_pegging.proofs.merging.merge.Given as goal

abbrev pub invariant-loop-theirs : goal.invariant-loop-theirs
invariant-loop-theirs l = (measure : ℕ → ℕ) → rows_weight measure l.merged.items + (rows_weight measure l.ours.items + rows_weight measure l.theirs.items) ≡ rows_weight measure l.initial.ours.items + rows_weight measure l.initial.theirs.items

abbrev pub decreases-loop-theirs : goal.decreases-loop-theirs
decreases-loop-theirs l = vec_len l.ours + vec_len l.theirs
