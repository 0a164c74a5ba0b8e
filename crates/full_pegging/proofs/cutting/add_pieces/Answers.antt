use Rattle.std.proofs.Common.{◌<◌, ℕ, length, arith}
use Rattle.std.proofs.lemmas.List.Sums.{sum_by_more}
use Rattle.full_pegging.specs.Rows.{by_stretch}
use Rattle.full_pegging.proofs.Stretches.{in_stretch, behind_stretches, none_left, whole_taken}
use Rattle.full_pegging.proofs.cutting.add_pieces.Goals as goal

pub returns-then-behind-eq0-clause-weight : goal.returns-then-behind-eq0-clause-weight
returns-then-behind-eq0-clause-weight c = λ measure.
    let ls = c.args.stretches.now in
    let here = c.split_at.result.0 in
    let behind = c.split_at.result.1 in
    let e = c.split_at.ensures in
    let low : c.loop-stretch.stretch < length ls = c.loop-stretch-test.true in
    let from = c.loop-stretch.invariant.3 in
    let first = e.first in
    let below = e.below in
    let added = c.in_ok-add_piece.ensures.weight measure in
    let same = in_stretch measure ls c.loop-stretch.stretch c.loop-stretch.number here.first here.many here.times low c.loop-stretch.invariant.2 (omega (arith, first, from))
    (λ j l. omega (arith, first, below, l)) in
    let split = e.weight (by_stretch measure ls) in
    let none = none_left (by_stretch measure ls) behind c.if-behind-eq0.true in
    let so_far = c.loop-stretch.invariant.0 measure in
    omega (arith, added, same, split, none, so_far)

pub returns-then-behind-eq0-clause-within : goal.returns-then-behind-eq0-clause-within
returns-then-behind-eq0-clause-within c = λ all.
    let e = c.split_at.ensures in
    let from = c.loop-stretch.invariant.3 in
    let first = e.first in
    let below = e.below in
    c.in_ok-add_piece.ensures.within c.args.stretches.now (λ some low. omega (arith, some, from, first, below)) (c.loop-stretch.invariant.1 all)

pub loop-stretch-preserved : goal.loop-stretch-preserved
loop-stretch-preserved c =
    let ls = c.args.stretches.now in
    let here = c.split_at.result.0 in
    let behind = c.split_at.result.1 in
    let e = c.split_at.ensures in
    let low : c.loop-stretch.stretch < length ls = c.loop-stretch-test.true in
    let from = c.loop-stretch.invariant.3 in
    let starts = c.loop-stretch.invariant.2 in
    let first = e.first in
    let below = e.below in
    let next = e.behind in
    let rest = e.rest in
    let more = sum_by_more (λ (x : ℕ). x) ls c.loop-stretch.stretch 0 low in
    let some = c.if-behind-eq0.false in (
      (λ measure.
          let added = c.in_ok-add_piece.ensures.weight measure in
          let same = in_stretch measure ls c.loop-stretch.stretch c.loop-stretch.number here.first here.many here.times low starts (omega (arith, first, from)) (λ j l. omega (arith, first, below, l)) in
          let split = e.weight (by_stretch measure ls) in
          let so_far = c.loop-stretch.invariant.0 measure in
          omega (arith, added, same, split, so_far)),
      (λ all. c.in_ok-add_piece.ensures.within ls (λ many inside. omega (arith, many, from, first, below)) (c.loop-stretch.invariant.1 all)),
      omega (arith, starts, more),
      omega (arith, from, first, below, next, rest, some),
    )

pub returns-clause-weight : goal.returns-clause-weight
returns-clause-weight c = λ measure.
    let ls = c.args.stretches.now in
    let rest = c.loop-stretch.rest in
    let starts = whole_taken ls c.loop-stretch.stretch c.loop-stretch.number c.loop-stretch-test.false c.loop-stretch.invariant.2 in
    let added = c.in_ok-add_piece-2.ensures.weight measure in
    let same = behind_stretches measure ls c.loop-stretch.number rest.first rest.many rest.times starts c.loop-stretch.invariant.3 in
    let so_far = c.loop-stretch.invariant.0 measure in
    omega (arith, added, same, so_far)
