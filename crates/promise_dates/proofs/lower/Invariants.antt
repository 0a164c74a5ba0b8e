use Rattle.std.proofs.Common.{◌≡◌, ◌-◌, ◌≤◌, length}
use Rattle.promise_dates.proofs.PromiseLaws.{lowered}
use Rattle.promise_dates.proofs.lower.Given as goal

abbrev pub invariant-loop-day : goal.invariant-loop-day
invariant-loop-day l = record {
  within : l.day ≤ length l.numbers;
  lower : l.numbers ≡ lowered (l.day - 1) l.initial.numbers;
}

abbrev pub decreases-loop-day : goal.decreases-loop-day
decreases-loop-day l = l.day
