use Rattle.std.proofs.Common.{◌≡◌, ◌-◌, ◌≤◌}
use Rattle.std.specs.Prelude.{slice_get}
use Rattle.planning_rules.specs.Days.{working_before}
use Rattle.plan_calendar.proofs.calendar.Calendar.back.Given as goal

abbrev pub invariant-loop-day : goal.invariant-loop-day
invariant-loop-day l = record {
  same : slice_get (working_before l.self l.at) (l.lead - 1) ≡ slice_get (working_before l.self l.day) l.skip;
  within : l.day ≤ l.at;
}

abbrev pub decreases-loop-day : goal.decreases-loop-day
decreases-loop-day l = l.day
