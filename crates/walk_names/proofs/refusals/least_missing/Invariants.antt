use Rattle.std.proofs.Common.{◌≡◌, take}
use Rattle.std.specs.Prelude.{not}
use Rattle.planning_rules.specs.Refused.{least_name, is_part}
use Rattle.walk_rules.specs.Cells.{records}
use Rattle.walk_names.proofs.refusals.least_missing.Given as goal

abbrev pub invariant-loop-name : goal.invariant-loop-name
invariant-loop-name l = l.least ≡ least_name (λ n. not (is_part (records l.job.cells) n)) (take l.name-index l.names)
