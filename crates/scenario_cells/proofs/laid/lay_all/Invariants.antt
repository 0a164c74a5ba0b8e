use Rattle.std.proofs.Common.{◌≡◌, ◌++◌}
use Rattle.scenario_rules.specs.World.{OwnChanges, contents_of}
use Rattle.record_versions.specs.Versions.{cell_at, id_at}
use Rattle.scenario_cells.specs.Held.{KeepsOlder, scenario_by}
use Rattle.scenario_cells.specs.Laid.{IsLaid, ids_of_held}
use Rattle.scenario_cells.proofs.laid.lay_all.Given as goal

abbrev pub invariant-loop-key : goal.invariant-loop-key
invariant-loop-key l =
    (done : OwnChanges) × (l.child.own ≡ done ++ l.key-iterator)
    × IsLaid l.point (contents_of (scenario_by (cell_at l.initial.store) l.above)) (id_at l.above.ids) (ids_of_held l.child) done l.store l.laid
    × KeepsOlder l.point l.initial.store l.store
