use Rattle.std.proofs.Common.{◌∙◌, ap}
use Rattle.std.specs.Ordering.{is_eq}
use Rattle.record_versions.proofs.Orders.{same_id_order}
use Rattle.record_versions.proofs.version.VersionId.is_same.Goals as goal

pub returns : goal.returns
returns c = c.is_eq.ensures ∙ ap is_eq (c.cmp.ensures ∙ same_id_order c.args.self.now c.args.other.now)
