use Rattle.std.proofs.Common.{◌∙◌, ap}
use Rattle.std.specs.Map.{lookup}
use Rattle.std.specs.BTreeMap.{is_at}
use Rattle.plan_schema.specs.Contents.{record_at}
use Rattle.plan_schema.proofs.Orders.{same_orders}
use Rattle.plan_schema.proofs.contents.Contents.get.Goals as goal

pub returns : goal.returns
returns c = c.get.ensures.value ∙ ap (λ r. lookup (is_at (r c.args.key.now)) c.self.inside.records.entries) same_orders ∙ ap (λ es. record_at es c.args.key.now) c.self.view_is
