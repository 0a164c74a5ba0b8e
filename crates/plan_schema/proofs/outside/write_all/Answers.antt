use Rattle.std.proofs.Common.{ap, ◌∙◌, ◌-◌, length, take, drop, arith, length-drop, ℕ}
use Rattle.plan_schema.specs.Outside.{extended}
use Rattle.plan_schema.proofs.Writes.{extended_more}
use Rattle.plan_schema.proofs.outside.write_all.Goals as goal

pub loop-done-preserved : goal.loop-done-preserved
loop-done-preserved g c =
    let bytes = c.in_ok-count.ensures.bytes in
    record {
      short = omega (arith, bytes.0, length-drop {A = ℕ});
      taken = bytes.2 ∙ ap (λ t. extended t (take c.in_ok-count.count (take (length c.args.bytes.now - c.loop-done.done) (drop c.loop-done.done c.args.bytes.now)))) c.loop-done.invariant.taken ∙ extended_more _ _ _ _;
      later = omega (arith, c.in_ok-count.ensures.cause.later, c.loop-done.invariant.later);
      same = c.in_ok-count.ensures.same ∙ c.loop-done.invariant.same;
    }
