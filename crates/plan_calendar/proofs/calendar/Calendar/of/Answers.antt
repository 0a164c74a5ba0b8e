use Rattle.std.proofs.Common.{◌≤◌, ◌∙◌, ap, length, take, arith}
use Rattle.std.proofs.lemmas.List.{take_all}
use Rattle.plan_calendar.specs.Weeks.{worked_days}
use Rattle.plan_calendar.proofs.Marks.{all_days}
use Rattle.plan_calendar.proofs.calendar.Calendar.of.Goals as goal

pub returns : goal.returns
returns c =
    let done : length c.args.holidays.now ≤ c.loop-holiday.holiday-index = omega (arith, c.loop-holiday-test.false, ap length c.as_slice-holiday-items.ensures) in
    all_days c.args.start.now c.args.days c.args.week.now (take c.loop-holiday.holiday-index c.args.holidays.now) c.loop-holiday.works c.requires c.loop-holiday.invariant.whole c.loop-holiday.invariant.marks
    ∙ ap (worked_days c.args.start.now c.args.days c.args.week.now) (take_all c.loop-holiday.holiday-index c.args.holidays.now done)
