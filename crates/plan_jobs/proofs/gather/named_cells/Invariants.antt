use Rattle.std.proofs.Common.{◌≡◌, ◌++◌, length}
use Rattle.record_versions.specs.Shown.{cells_of}
use Rattle.plan_jobs.proofs.Found.{fetched}
use Rattle.plan_jobs.proofs.gather.named_cells.Given as goal

abbrev pub invariant-loop-name : goal.invariant-loop-name
invariant-loop-name l = cells_of l.cells.items ++ fetched l.store l.ids l.names ≡ fetched l.store l.ids l.fn.names

abbrev pub decreases-loop-name : goal.decreases-loop-name
decreases-loop-name l = length l.names
