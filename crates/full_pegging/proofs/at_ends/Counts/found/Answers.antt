use Rattle.std.proofs.Common.{◌∙◌, ap}
use Rattle.std.specs.Map.{lookup}
use Rattle.std.specs.BTreeMap.{is_at}
use Rattle.plan_schema.proofs.Orders.{same_orders}
use Rattle.full_pegging.proofs.at_ends.Counts.found.Goals as goal

pub returns : goal.returns
returns c = c.get.ensures.value ∙ ap (λ r. lookup (is_at (r c.args.key.now)) c.args.self.now.by_key.entries) same_orders
