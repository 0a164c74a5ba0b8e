use Rattle.std.proofs.Common.{[], ◌∷◌, length, ◌∙◌, ap, arith, length-append}
use Rattle.full_pegging.specs.Rows.{rows_weight}
use Rattle.full_pegging.specs.Weights.{weight}
use Rattle.full_pegging.specs.Following.{waiting_weight}
use Rattle.full_pegging.proofs.Waiting.{one_part, weigh_rows}
use Rattle.full_pegging.proofs.tracing.waiting_at.Goals as goal
use Rattle.full_pegging.proofs.tracing.waiting_at.Goals.{then-index-place+in_ok-add_units, else-index-place}

pub loop-index-preserved : goal.loop-index-preserved
loop-index-preserved c =
    let old = c.loop-index.waiting.items in
    let index = c.loop-index.index in
    let grown = c.in_ok-push.ensures.items in
    let counted = c.loop-index.invariant.0 in
    let long = ap length grown ∙ length-append old (record { rows = c.if-index-place.rows } ∷ []) in
    let none = c.new-rows.ensures.items in
    elim c.if-index-place.branch [
      | then-index-place+in_ok-add_units w ↦
          let here = w.if-index-place.true in (
            omega (arith, long, counted),
            (λ measure less. absurd (omega (arith, here, less))),
            λ measure more.
                let so_far = c.loop-index.invariant.1 measure (omega (arith, here)) in
                let parts = ap (waiting_weight measure) grown ∙ one_part measure old (record { rows = c.if-index-place.rows }) index counted in
                let rows = weigh_rows (measure index) c.if-index-place.rows w.add_units.new.rows w.rows-is in
                let added = w.in_ok-add_units.ensures (measure index) in
                let nothing = ap (rows_weight (measure index)) none in
                let same = ap (λ k. weight (measure k) c.args.units) here in
                omega (arith, so_far, parts, rows, added, nothing, same),
          )
      | else-index-place w ↦
          let apart = w.if-index-place.false in (
            omega (arith, long, counted),
            (λ measure less.
                let so_far = c.loop-index.invariant.1 measure (omega (arith, less)) in
                let parts = ap (waiting_weight measure) grown ∙ one_part measure old (record { rows = c.if-index-place.rows }) index counted in
                let rows = weigh_rows (measure index) c.if-index-place.rows c.new-rows.result w.rows-is in
                let nothing = ap (rows_weight (measure index)) none in
                omega (arith, so_far, parts, rows, nothing)),
            λ measure more.
                let so_far = c.loop-index.invariant.2 measure (omega (arith, more, apart)) in
                let parts = ap (waiting_weight measure) grown ∙ one_part measure old (record { rows = c.if-index-place.rows }) index counted in
                let rows = weigh_rows (measure index) c.if-index-place.rows c.new-rows.result w.rows-is in
                let nothing = ap (rows_weight (measure index)) none in
                omega (arith, so_far, parts, rows, nothing),
          )
    ]
