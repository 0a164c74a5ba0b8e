use Rattle.std.proofs.Common.{◌≡◌, ◌+◌, length, true}
use Rattle.plan_jobs.specs.Names.{has_name, are_ordered}
use Rattle.plan_jobs.specs.Collects.{cells_by, records_by}
use Rattle.plan_jobs.proofs.Gathering.{Gathering, pending}
use Rattle.plan_jobs.proofs.gather.needed_names.Given as goal

abbrev pub invariant-loop-name : goal.invariant-loop-name
invariant-loop-name l = record {
  gathering : Gathering (records_by l.store l.ids) l.fn.part (has_name l.names) l.todo.items;
  ordered : are_ordered l.names ≡ true;
}

abbrev pub decreases-loop-name : goal.decreases-loop-name
decreases-loop-name l = length l.todo.items + pending (has_name l.names) (cells_by l.store l.ids)
