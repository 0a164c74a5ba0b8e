use Rattle.std.proofs.Common.{take}
use Rattle.scenario_rules.specs.World.{contents_of}
use Rattle.scenario_rules.specs.Steps.{all_put}
use Rattle.record_versions.specs.Versions.{cell_at}
use Rattle.scenario_cells.specs.Held.{scenario_by}
use Rattle.scenario_cells.specs.Room.{IsTallied}
use Rattle.scenario_cells.proofs.room.counted_room.Given as goal

abbrev pub invariant-loop-i : goal.invariant-loop-i
invariant-loop-i l = IsTallied (contents_of (scenario_by (cell_at l.store) l.held)) (all_put (take l.i l.rows)) l.tally
