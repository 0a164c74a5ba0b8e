use Rattle.std.proofs.Common.{◌≡◌, ◌+◌, ℕ, vec_len}
use Rattle.full_pegging.specs.Rows.{rows_weight}
use Rattle.full_pegging.proofs.merging.take_rest.Given as goal

abbrev pub invariant-loop-units : goal.invariant-loop-units
invariant-loop-units l = (measure : ℕ → ℕ) → rows_weight measure l.merged.items + rows_weight measure l.rows.items ≡ rows_weight measure l.initial.merged.items + rows_weight measure l.initial.rows.items

abbrev pub decreases-loop-units : goal.decreases-loop-units
decreases-loop-units l = vec_len l.rows
