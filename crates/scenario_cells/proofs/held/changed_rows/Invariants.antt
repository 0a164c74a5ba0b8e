use Rattle.std.proofs.Common.{take}
use Rattle.scenario_rules.specs.Steps.{all_put}
use Rattle.record_versions.specs.Versions.{cell_at}
use Rattle.scenario_cells.specs.Held.{KeepsOlder, IsChanged}
use Rattle.scenario_cells.specs.Loads.{held_with}
use Rattle.scenario_cells.proofs.InPlace.{load_begun}
use Rattle.scenario_cells.proofs.held.changed_rows.Given as goal

abbrev pub invariant-loop-row : goal.invariant-loop-row
invariant-loop-row l =
    IsChanged l.point l.root (all_put (take l.row-index l.rows)) (cell_at l.fn.store) (cell_at l.store) (held_with l.root l.held (load_begun l.held)) (held_with l.root l.held l.loaded)
    × KeepsOlder l.point l.fn.store l.store
