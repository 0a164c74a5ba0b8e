use Rattle.std.proofs.Common.{◌≡◌, ◌++◌}
use Rattle.scenario_rules.specs.World.{OwnChanges, contents_of}
use Rattle.record_versions.specs.Versions.{cell_at}
use Rattle.scenario_cells.specs.Held.{scenario_by}
use Rattle.scenario_cells.specs.Room.{IsTallied}
use Rattle.scenario_cells.proofs.room.own_room.Given as goal

abbrev pub invariant-loop-key : goal.invariant-loop-key
invariant-loop-key l = (done : OwnChanges) × (l.child.own ≡ done ++ l.key-iterator) × IsTallied (contents_of (scenario_by (cell_at l.store) l.above)) done l.tally
