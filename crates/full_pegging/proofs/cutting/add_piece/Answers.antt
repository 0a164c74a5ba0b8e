use Rattle.std.proofs.Common.{◌+◌, ◌-◌, ◌∙◌, ap}
use Rattle.std.proofs.lemmas.List.Sums.{sum_by_push}
use Rattle.full_pegging.specs.Rows.{pieces_weight}
use Rattle.full_pegging.specs.Weights.{weight}
use Rattle.full_pegging.specs.declared.cutting.Piece.{Piece}
use Rattle.full_pegging.proofs.Stretches.{counted_from}
use Rattle.full_pegging.proofs.cutting.add_piece.Goals as goal

pub returns-clause-weight : goal.returns-clause-weight
returns-clause-weight c = λ measure.
    let units = c.args.units.now in
    let start = c.args.start in
    let piece : Piece = record { stretch = start.stretch; units = record { first = units.first - start.number; many = units.many; times = units.times } } in
    ap (pieces_weight measure) c.in_ok-push.ensures.items
    ∙ sum_by_push (λ (p : Piece). weight (measure p.stretch) p.units) c.args.pieces.now.items piece
    ∙ ap (λ w. pieces_weight measure c.args.pieces.now.items + w) (counted_from (measure start.stretch) start.number units.first units.many units.times c.requires)
