use Rattle.std.proofs.Common.{arith}
use Rattle.walk_rules.specs.Cells.{records}
use Rattle.walk_rules.specs.Walks.{names_of}
use Rattle.full_pegging.specs.Ends.{ends_by}
use Rattle.full_pegging.proofs.Waiting.{none_wait}
use Rattle.full_pegging.proofs.trail.follow_all.Goals as goal

pub returns : goal.returns
returns c = λ measure.
    let ends = ends_by measure (records c.args.walk.now.job.cells) (names_of c.args.walk.now.parts) in
    let done = c.loop-place-test.false in
    let so_far = c.loop-place.invariant.0 measure in
    let none = none_wait ends c.loop-place.waiting (λ k d low. c.loop-place.invariant.1 k d (omega (arith, done)) low) in
    omega (arith, so_far, none)
