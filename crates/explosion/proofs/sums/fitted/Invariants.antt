use Rattle.std.proofs.Common.{◌≡◌, take, false}
use Rattle.planning_rules.specs.Netting.{exceeds}
use Rattle.explosion.proofs.sums.fitted.Given as goal

abbrev pub invariant-loop-sum : goal.invariant-loop-sum
invariant-loop-sum l = record {
  same : l.fitted.items ≡ take l.sum-index l.sums;
  fits : exceeds (take l.sum-index l.sums) ≡ false;
}
