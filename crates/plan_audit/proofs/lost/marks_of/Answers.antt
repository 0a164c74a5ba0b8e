use Rattle.std.proofs.Common.{◌∙◌, ◌+◌, ◌<◌, ℕ, List, Bool, false, length, drop, slice_index_or, ap, sym, arith}
use Rattle.std.specs.Prelude.{◌||◌, ◌==◌}
use Rattle.std.specs.List.{list_any}
use Rattle.plan_audit.proofs.Points.{one_left, nothing_left}
use Rattle.plan_audit.proofs.Marks.{or_or, or_false}
use Rattle.plan_audit.proofs.lost.marks_of.Goals as goal

pub loop-point-init : goal.loop-point-init
loop-point-init c = (c.in_ok-marks.ensures.len, λ k less. ap (λ (b : Bool). b || list_any (λ p. p == k + 1) c.args.points.now) (c.in_ok-marks.ensures.none k))

pub loop-point-preserved : goal.loop-point-preserved
loop-point-preserved c =
    let points = c.args.points.now in
    let at = c.loop-point.point-index in
    let within : at < length points = omega (arith, c.loop-point-test.true) in
    let long = c.loop-point.invariant.0 in (
      c.mark.ensures.len ∙ long,
      λ k less.
          (let marked = c.mark.ensures.marked k (omega (arith, less, long)) in
          let rest = list_any (λ p. p == k + 1) (drop (at + 1) points) in
          ap (λ (b : Bool). b || rest) marked
          ∙ or_or (slice_index_or c.loop-point.marks.items k false) (slice_index_or points at 0 == k + 1) rest
          ∙ ap (λ (ps : List ℕ). slice_index_or c.loop-point.marks.items k false || list_any (λ p. p == k + 1) ps) (sym (one_left at points 0 within))
          ∙ c.loop-point.invariant.1 k less),
    )

pub returns-clause-marks : goal.returns-clause-marks
returns-clause-marks c = λ k less.
    sym (or_false (slice_index_or c.loop-point.marks.items k false))
    ∙ ap (λ (ps : List ℕ). slice_index_or c.loop-point.marks.items k false || list_any (λ p. p == k + 1) ps) (sym (nothing_left c.loop-point.point-index c.args.points.now c.loop-point-test.false))
    ∙ c.loop-point.invariant.1 k less
