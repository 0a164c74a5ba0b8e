use Rattle.std.proofs.Common.{◌≡◌, ℕ, ◌+◌, ◌<◌, take, false, get_or, length}
use Rattle.plan_calendar.specs.Weeks.{week_works}
use Rattle.plan_calendar.proofs.calendar.Calendar.of.Given as goal

abbrev pub invariant-loop-holiday : goal.invariant-loop-holiday
invariant-loop-holiday l =
    record {
      whole : length l.works ≡ 400;
      marks : (t : ℕ) → t < l.days → get_or l.works t false ≡ week_works l.week (take l.holiday-index l.holidays) (l.start + t);
    }
