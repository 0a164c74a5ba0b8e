use Rattle.std.proofs.Common.{◌≡◌, ℕ, take}
use Rattle.std.specs.Prelude.{All}
use Rattle.full_pegging.specs.Rows.{rows_weight, pieces_weight, by_stretch, IsWithin, IsStart}
use Rattle.full_pegging.proofs.cutting.cut.Given as goal

abbrev pub invariant-loop-units : goal.invariant-loop-units
invariant-loop-units l =
    ((measure : ℕ → ℕ → ℕ) → pieces_weight measure l.pieces.items ≡ rows_weight (by_stretch measure l.stretches) (take l.units-index l.rows))
    × All (IsWithin l.stretches) l.pieces.items
    × IsStart l.stretches l.last
