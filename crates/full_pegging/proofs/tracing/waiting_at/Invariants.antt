use Rattle.std.proofs.Common.{◌≡◌, ◌<◌, ◌≤◌, ℕ, length}
use Rattle.full_pegging.specs.Weights.{weight}
use Rattle.full_pegging.specs.Following.{waiting_weight}
use Rattle.full_pegging.proofs.tracing.waiting_at.Given as goal

abbrev pub invariant-loop-index : goal.invariant-loop-index
invariant-loop-index l = (length l.waiting.items ≡ l.index)
    × ((measure : ℕ → ℕ → ℕ) → l.index ≤ l.place → waiting_weight measure l.waiting.items ≡ 0)
    × ((measure : ℕ → ℕ → ℕ) → l.place < l.index → waiting_weight measure l.waiting.items ≡ weight (measure l.place) l.units)
