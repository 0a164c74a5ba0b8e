use Rattle.std.proofs.Common.{◌∙◌}
use Rattle.scenario_cells.proofs.SameRecords.{derived_same}
use Rattle.plan_audit.proofs.same.is_same_record.Goals as goal

pub returns : goal.returns
returns c = c.eq.ensures ∙ derived_same c.args.value.now c.args.other.now
