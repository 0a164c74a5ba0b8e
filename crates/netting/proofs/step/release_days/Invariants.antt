use Rattle.std.proofs.Common.{◌≡◌, ◌*◌, ◌≤◌, ◌<◌, ℕ, length, get_or, reverse}
use Rattle.planning_rules.specs.Days.{working_before}
use Rattle.netting.proofs.Released.{released_to, late_to}
use Rattle.netting.proofs.step.release_days.Given as goal

abbrev pub invariant-loop-day : goal.invariant-loop-day
invariant-loop-day l = record {
  passed : l.passed.items ≡ reverse (working_before l.calendar l.day);
  whole : length l.release.items ≡ length l.planned;
  each : (t : ℕ) → t < length l.planned → get_or l.release.items t 0 ≡ released_to l.calendar l.lead l.planned t l.day;
  late : l.late ≡ late_to l.calendar l.lead l.planned l.day;
  small : (t : ℕ) → get_or l.release.items t 0 ≤ l.day * 1000000000000000;
  small_late : l.late ≤ l.day * 1000000000000000;
}
