use Rattle.std.proofs.Common.{◌≡◌, ◌∙◌, ap, sym, Some}
use Rattle.plan_schema.specs.declared.key.Key.TheVariants as keys
use Rattle.plan_schema.specs.declared.key.Record.TheVariants as records
use Rattle.plan_schema.specs.Contents.{record_at}
use Rattle.plan_calendar.specs.Weeks.{worked_days}
use Rattle.part_steps.proofs.Days.{by_week}
use Rattle.part_steps.proofs.calendars.calendar.Goals as goal

pub returns : goal.returns
returns c =
    let there : record_at c.args.cell.now (keys.Cal c.args.name.now) ≡ Some (records.Cal c.in-Some-Cal.week) = sym c.in-Some-Cal.ensures.value ∙ ap Some c.in-Some-Cal.field-0-is in
    c.of.ensures ∙ ap (λ holidays. worked_days c.args.start.now c.args.days c.in-Some-Cal.week holidays) c.in_ok-holidays.ensures ∙ by_week c.args.cell.now c.args.name.now c.in-Some-Cal.week c.args.start.now c.args.days there
