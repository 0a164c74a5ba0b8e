use Rattle.std.proofs.Common.{◌∙◌}
use Rattle.scenario_cells.proofs.SameRecords.{derived_same}
use Rattle.scenario_cells.proofs.conflicts.same_records.Goals as goal

pub returns : goal.returns
returns c = c.eq.ensures ∙ derived_same c.args.one.now c.args.other.now
