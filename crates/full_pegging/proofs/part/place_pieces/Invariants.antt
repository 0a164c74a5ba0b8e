use Rattle.std.proofs.Common.{◌≡◌, ◌+◌, ℕ, take}
use Rattle.planning_rules.specs.Trace.{End}
use Rattle.full_pegging.specs.Rows.{rows_weight, pieces_weight}
use Rattle.full_pegging.specs.Following.{landed_weight, supply_weight}
use Rattle.full_pegging.proofs.part.place_pieces.Given as goal

abbrev pub invariant-loop-piece : goal.invariant-loop-piece
invariant-loop-piece l = (measure : End → ℕ) (places : ℕ → ℕ) → landed_weight measure l.landed.items + rows_weight places l.rows.items
    ≡ landed_weight measure l.initial.landed.items + pieces_weight (supply_weight measure places l.part l.befores) (take l.piece-index l.pieces)
