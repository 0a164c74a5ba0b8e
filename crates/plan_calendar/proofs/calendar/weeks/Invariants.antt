use Rattle.std.proofs.Common.{◌≡◌, ℕ, ◌+◌, ◌<◌, ◌%◌, [], false, get_or, length}
use Rattle.plan_calendar.specs.Weeks.{week_works}
use Rattle.plan_calendar.proofs.calendar.weeks.Given as goal

abbrev pub invariant-loop-day : goal.invariant-loop-day
invariant-loop-day l = record {
  turn : l.weekday ≡ (l.start + l.day + 5) % 7;
  whole : length l.works ≡ 400;
  marks : (t : ℕ) → t < l.day → get_or l.works t false ≡ week_works l.week [] (l.start + t);
}
