use Rattle.std.proofs.Common.{◌∙◌, ap}
use Rattle.std.specs.Map.{lookup}
use Rattle.std.specs.BTreeMap.{is_at}
use Rattle.plan_schema.specs.Contents.{record_at}
use Rattle.plan_schema.proofs.Orders.{same_orders}
use Rattle.record_versions.proofs.cell.Cell.get.Goals as goal

pub returns-in-Some : goal.returns-in-Some
returns-in-Some c =
    let same = c.in-Some.ensures ∙ ap (λ r. lookup (is_at (r c.args.key.now)) c.self.inside.rows) same_orders ∙ ap (λ es. record_at es c.args.key.now) c.self.view_is in cc

pub returns-in-None : goal.returns-in-None
returns-in-None c =
    let same = c.in-None.ensures ∙ ap (λ r. lookup (is_at (r c.args.key.now)) c.self.inside.rows) same_orders ∙ ap (λ es. record_at es c.args.key.now) c.self.view_is in same
