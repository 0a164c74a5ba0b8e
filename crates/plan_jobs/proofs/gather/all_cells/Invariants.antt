use Rattle.std.proofs.Common.{◌≡◌, ◌++◌, true}
use Rattle.std.specs.Prelude.{is_some}
use Rattle.std.specs.List.{list_all}
use Rattle.record_versions.specs.Versions.{cell_at}
use Rattle.record_versions.specs.Shown.{cells_of}
use Rattle.plan_jobs.specs.Collects.{cells_by}
use Rattle.plan_jobs.proofs.gather.all_cells.Given as goal

abbrev pub invariant-loop-name : goal.invariant-loop-name
invariant-loop-name l = record {
  cells : cells_of l.cells.items ++ cells_by l.store l._name-iterator ≡ cells_by l.store l.ids;
  stored : list_all (λ entry. is_some (cell_at l.store entry.1)) l._name-iterator ≡ true;
}
