use Rattle.std.proofs.Common.{arith}
use Rattle.full_pegging.specs.declared.cutting.Piece.{Piece}
use Rattle.full_pegging.proofs.Counts.{piece_counts}
use Rattle.full_pegging.proofs.part.follow_pieces.Goals as goal

none : Piece
none = record { stretch = 0; units = record { first = 0; many = 0; times = 0 } }

pub follow_piece-requires : goal.follow_piece-requires
unfolding none
follow_piece-requires g c =
    let long = c.loop-piece.auto.waiting in
    let most = c.requires.1.1 in (
      piece_counts c.args.pieces.now c.loop-piece.piece-index none 18446744073709551616 c.loop-piece-test.true c.requires.0,
      (c.requires.1.0 c.loop-piece.piece-index none c.loop-piece-test.true, omega (arith, long, most)),
    )
