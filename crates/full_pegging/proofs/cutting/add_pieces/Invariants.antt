use Rattle.std.proofs.Common.{◌≡◌, ℕ, ◌+◌, ◌≤◌, take}
use Rattle.std.specs.Prelude.{All, sum}
use Rattle.full_pegging.specs.Rows.{pieces_weight, by_stretch, IsWithin}
use Rattle.full_pegging.specs.Weights.{weight}
use Rattle.full_pegging.proofs.cutting.add_pieces.Given as goal

abbrev pub invariant-loop-stretch : goal.invariant-loop-stretch
invariant-loop-stretch l =
    ((measure : ℕ → ℕ → ℕ) → pieces_weight measure l.pieces.items + weight (by_stretch measure l.stretches) l.rest ≡ pieces_weight measure l.initial.pieces.items + weight (by_stretch measure l.stretches) l.fn.units)
    × (All (IsWithin l.stretches) l.initial.pieces.items → All (IsWithin l.stretches) l.pieces.items)
    × (l.number ≡ sum (take l.stretch l.stretches))
    × (l.number ≤ l.rest.first)
