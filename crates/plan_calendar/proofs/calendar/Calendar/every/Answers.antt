use Rattle.std.proofs.lemmas.List.{take-replicate}
use Rattle.std.specs.Prelude.{true}
use Rattle.plan_calendar.proofs.calendar.Calendar.every.Goals as goal

pub returns : goal.returns
returns c = take-replicate c.args.days 400 true c.requires
