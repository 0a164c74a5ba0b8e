use Rattle.std.proofs.Common.{◌∙◌, ap}
use Rattle.std.specs.Map.{remove_entry}
use Rattle.std.specs.BTreeMap.{is_at}
use Rattle.plan_schema.specs.Contents.{without_key}
use Rattle.plan_schema.proofs.Orders.{same_orders}
use Rattle.record_versions.proofs.cell.Cell.without.Goals as goal

pub returns : goal.returns
returns c =
    c.in_ok-without.ensures ∙ ap (λ r. remove_entry (is_at (r c.args.key.now)) c.self.inside.rows) same_orders ∙ ap (λ es. without_key es c.args.key.now) c.self.view_is
