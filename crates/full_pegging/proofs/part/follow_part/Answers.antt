use Rattle.std.proofs.Common.{List, ap, sym, subst, arith}
use Rattle.planning_rules.specs.Trace.{End}
use Rattle.std.specs.Prelude.{All}
use Rattle.full_pegging.specs.declared.cutting.Piece.{Piece}
use Rattle.full_pegging.specs.Rows.{rows_weight, pieces_weight, IsWithin}
use Rattle.full_pegging.proofs.Counts.{fewer_placed, weightless, pieces_follow}
use Rattle.full_pegging.proofs.part.follow_part.Goals as goal

pub follow_pieces-requires : goal.follow_pieces-requires
follow_pieces-requires g c =
    let rows = c.in_ok-rows.ensures (λ unit. 1) in
    let row_list = ap (rows_weight (λ unit. 1)) c.as_slice.ensures.value in
    let cut = c.in_ok-planned.ensures.weight (λ stretch unit. 1) in
    let piece_list = ap (pieces_weight (λ stretch unit. 1)) c.as_slice-2.ensures.value in
    let placed = c.in_ok-places.ensures.weight (λ (end : End). 0) (λ place. 1) in
    let fewer = fewer_placed c.args.part.now c.args.streams.now.befores.now c.as_slice-2.result.now in
    let none = weightless c.args.landed.now.items in
    let none_new = weightless c.place_pieces.new.landed.items in
    let place_list = ap (rows_weight (λ unit. 1)) c.as_slice-3.ensures.value in
    let asked = c.in_ok-asked.ensures.weight (λ stretch unit. 1) in
    let asked_list = ap (pieces_weight (λ stretch unit. 1)) c.as_slice-4.ensures.value in
    let all = c.requires.0 in (
      omega (arith, rows, row_list, cut, piece_list, placed, fewer, none, none_new, place_list, asked, asked_list, all),
      (
        pieces_follow g.most c.args.streams.now.targets.now c.args.streams.now.quantities.now c.as_slice-4.result.now c.requires.1.1.1.1.1.0 c.requires.1.1.1.1.1.1.0
            (subst (λ (ps : List Piece). All (IsWithin c.args.streams.now.quantities.now) ps) (sym c.as_slice-4.ensures.value) c.in_ok-asked.ensures.within),
        c.requires.1.1.1.1.1.1.1,
      ),
    )
