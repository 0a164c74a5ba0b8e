use Rattle.std.proofs.Common.{◌∙◌, ap}
use Rattle.jiff_core.specs.Calendar.{weekday_number}
use Rattle.plan_schema.proofs.Days.{weekday_is}
use Rattle.plan_schema.proofs.day.Day.weekday.Goals as goal

pub returns-clause-value : goal.returns-clause-value
returns-clause-value c = c.index.ensures.value ∙ c.weekday.ensures ∙ ap weekday_number c.date.ensures.epoch ∙ weekday_is c.args.self.now
