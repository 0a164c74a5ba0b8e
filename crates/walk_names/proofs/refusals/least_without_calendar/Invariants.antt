use Rattle.std.proofs.Common.{◌≡◌, take}
use Rattle.plan_schema.specs.declared.key.Key.TheVariants as keys
use Rattle.plan_schema.specs.Contents.{record_at}
use Rattle.planning_rules.specs.Refused.{least_name, lacks_calendar}
use Rattle.walk_rules.specs.Cells.{records}
use Rattle.walk_names.proofs.refusals.least_without_calendar.Given as goal

abbrev pub invariant-loop-name : goal.invariant-loop-name
invariant-loop-name l = l.least ≡ least_name (λ n. lacks_calendar (records l.job.cells) (record_at (records l.job.cells) (keys.Part n))) (take l.name-index l.names)
