use Rattle.std.proofs.Common.{◌≡◌, get_or, ap, arith}
use Rattle.full_pegging.specs.Rows.{rows_weight}
use Rattle.full_pegging.specs.declared.follow.PartRows.{PartRows}
use Rattle.full_pegging.proofs.Waiting.{rows_set, rows_elsewhere}
use Rattle.full_pegging.proofs.follow.hand_on.Goals as goal

pub returns-clause-weight : goal.returns-clause-weight
returns-clause-weight c = λ measure.
    let waiting = c.args.waiting.now in
    let old = c.index-waiting-place.result in
    let placed = rows_set measure waiting c.args.place (record { rows = c.add_parent_units.new.rows }) old c.requires.place in
    let same : rows_weight (measure c.args.place) old.rows.items ≡ rows_weight (measure c.args.place) (get_or waiting c.args.place old).rows.items =
    ap (λ (part : PartRows). rows_weight (measure c.args.place) part.rows.items) c.index-waiting-place.is in
    let added = c.in_ok-add_parent_units.ensures (measure c.args.place) in
    let spread = c.parent_units-units.ensures (measure c.args.place) in
    omega (arith, placed, same, added, spread)

pub returns-clause-others : goal.returns-clause-others
returns-clause-others c = λ k d after. rows_elsewhere c.args.waiting.now c.args.place k (record { rows = c.add_parent_units.new.rows }) d after
