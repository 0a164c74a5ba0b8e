use Rattle.std.proofs.Common.{arith}
use Rattle.std.proofs.lemmas.List.Sums.{sum_by_more}
use Rattle.full_pegging.specs.Weights.{weight}
use Rattle.full_pegging.specs.Following.{supply_weight}
use Rattle.full_pegging.specs.declared.cutting.Piece.{Piece}
use Rattle.full_pegging.proofs.Counts.{piece_counts}
use Rattle.full_pegging.proofs.part.place_pieces.Goals as goal

none : Piece
none = record { stretch = 0; units = record { first = 0; many = 0; times = 0 } }

pub place_piece-requires-clause-fits : goal.place_piece-requires-clause-fits
unfolding none
place_piece-requires-clause-fits c = piece_counts c.args.pieces.now c.loop-piece.piece-index none 18446744073709551616 c.loop-piece-test.true c.requires.total

pub loop-piece-preserved : goal.loop-piece-preserved
unfolding none
loop-piece-preserved c = λ measure places.
    let so_far = c.loop-piece.invariant measure places in
    let here = c.in_ok-place_piece.ensures measure places in
    let more = sum_by_more (λ (piece : Piece). weight (supply_weight measure places c.args.part.now c.args.befores.now piece.stretch) piece.units) c.args.pieces.now c.loop-piece.piece-index none c.loop-piece-test.true in
    omega (arith, so_far, here, more)
