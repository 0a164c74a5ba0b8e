use Rattle.std.proofs.Common.{◌≡◌, ◌+◌, ◌≤◌, ℕ, take, get_or}
use Rattle.std.specs.Prelude.{slice_get}
use Rattle.planning_rules.specs.Trace.{End}
use Rattle.full_pegging.specs.Rows.{pieces_weight}
use Rattle.full_pegging.specs.Following.{landed_weight, waiting_weight, target_weight}
use Rattle.full_pegging.specs.declared.follow.PartRows.{PartRows}
use Rattle.full_pegging.proofs.part.follow_pieces.Given as goal

abbrev pub invariant-loop-piece : goal.invariant-loop-piece
invariant-loop-piece g l = ((measure : End → ℕ) (ends : ℕ → ℕ → ℕ) → landed_weight measure l.landed.items + waiting_weight ends l.waiting
    ≡ (landed_weight measure l.initial.landed.items + waiting_weight ends l.initial.waiting) + pieces_weight (λ stretch. target_weight measure ends l.part (slice_get l.targets stretch)) (take l.piece-index l.pieces))
    × ((k : ℕ) (d : PartRows) → g.most ≤ k → get_or l.waiting k d ≡ get_or l.initial.waiting k d)

abbrev pub ghost-follow_piece : goal.ghost-follow_piece
ghost-follow_piece g a = g.most
