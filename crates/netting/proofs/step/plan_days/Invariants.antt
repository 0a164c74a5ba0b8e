use Rattle.std.proofs.Common.{◌+◌, ◌*◌, ◌≤◌}
use Rattle.std.specs.Prelude.{All}
use Rattle.planning_rules.specs.Netting.{limit}
use Rattle.netting.specs.Inputs.{given}
use Rattle.netting.specs.DayByDay.{IsPlannedTo}
use Rattle.netting.proofs.NetLaws.{Balanced}
use Rattle.netting.proofs.step.plan_days.Given as goal

abbrev pub invariant-loop-day : goal.invariant-loop-day
invariant-loop-day l = record {
  going : IsPlannedTo (given l.input) l.day l.planned.items l.balance;
  kept : Balanced (given l.input) l.day l.planned.items l.balances.items;
  small : l.balance ≤ 1000000000 + l.day * 1200000000000000;
  within : All (λ n. n ≤ limit) l.planned.items;
}
