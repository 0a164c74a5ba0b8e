use Rattle.std.proofs.Common.{refl, ◌∙◌, ap, arith}
use Rattle.walk_rules.specs.Cells.{records}
use Rattle.walk_rules.specs.Walks.{names_of}
use Rattle.full_pegging.specs.Rows.{rows_weight}
use Rattle.full_pegging.specs.Ends.{ends_by}
use Rattle.full_pegging.specs.declared.follow.PartRows.{PartRows}
use Rattle.full_pegging.proofs.Waiting.{rows_set, rows_within, long_set}
use Rattle.full_pegging.proofs.trail.follow_at.Goals as goal

pub follow_rows-requires : goal.follow_rows-requires
follow_rows-requires c =
    let waiting = c.args.waiting.now in
    let old = c.index-waiting-place.result in
    let low = c.requires.place in
    let long = c.requires.long in
    let within = rows_within (λ place unit. 1) waiting c.args.place old (omega (arith, low, long)) in
    let total = c.requires.total in
    let taken = c.as_slice.ensures.value ∙ ap (λ (part : PartRows). part.rows.items) c.replace-taken.ensures.value in
    let weighs = ap (rows_weight (λ unit. 1)) taken in
    (c.requires.walk, (refl, (c.requires.place, (omega (arith, weighs, within, total), long_set waiting c.args.place c.replace-taken.new.dest ∙ c.requires.long))))

pub returns-clause-weight : goal.returns-clause-weight
returns-clause-weight c = λ measure.
    let ends = ends_by measure (records c.args.walk.now.job.cells) (names_of c.args.walk.now.parts) in
    let waiting = c.args.waiting.now in
    let old = c.index-waiting-place.result in
    let low = c.requires.place in
    let long = c.requires.long in
    let told = c.in_ok-follow_rows.ensures.weight measure in
    let placed = rows_set ends waiting c.args.place c.replace-taken.new.dest old (omega (arith, low, long)) in
    let taken = c.as_slice.ensures.value ∙ ap (λ (part : PartRows). part.rows.items) c.replace-taken.ensures.value in
    let weighs = ap (rows_weight (ends c.args.place)) taken in
    let none = ap (λ (part : PartRows). rows_weight (ends c.args.place) part.rows.items) c.replace-taken.ensures.after in
    let empty = ap (rows_weight (ends c.args.place)) c.new.ensures.items in
    omega (arith, told, placed, weighs, none, empty)
