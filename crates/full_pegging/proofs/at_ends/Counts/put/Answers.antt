use Rattle.std.proofs.Common.{◌∙◌, ap}
use Rattle.std.specs.BTreeMap.{insert_entry}
use Rattle.plan_schema.proofs.Orders.{same_orders}
use Rattle.full_pegging.proofs.at_ends.Counts.put.Goals as goal

pub returns : goal.returns
returns c = c.in_ok-insert.ensures.entries ∙ ap (λ r. insert_entry r c.args.self.now.by_key.entries c.args.key c.args.qty) same_orders
