use Rattle.std.proofs.Common.{◌≡◌, ◌+◌, ◌-◌, ◌*◌, ◌≤◌, ◌<◌, ℕ, take, pos}
use Rattle.std.specs.Prelude.{ℤ, slice_index_or}
use Rattle.std.specs.List.{sum}
use Rattle.planning_rules.specs.Shortages.{shortage, InReach}
use Rattle.netting.proofs.step.fill_short.Given as goal

abbrev pub invariant-loop-day : goal.invariant-loop-day
invariant-loop-day l = record {
  asked : l.asked ≡ l.safety + sum (take l.day l.gross);
  there : l.there ≡ l.balance + sum (take l.day l.sched);
  asked_small : l.asked ≤ 1000000000 + l.day * 1000000000000000;
  there_small : l.there ≤ 600000000000000000 + l.day * 200000000000000;
  filled : (k : ℕ) → k < l.day → shortage (slice_index_or l.short k (pos 0)) ≡ (l.safety + sum (take (k + 1) l.gross)) - (l.balance + sum (take (k + 1) l.sched));
  reach : (k : ℕ) (d : ℤ) → k < l.day → InReach (slice_index_or l.short k d);
}
