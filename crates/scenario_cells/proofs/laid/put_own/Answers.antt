use Rattle.std.proofs.Common.{◌∙◌, ap}
use Rattle.std.specs.BTreeMap.{insert_entry}
use Rattle.std.specs.Arc.{arc_value}
use Rattle.plan_schema.proofs.Orders.{same_orders, derived}
use Rattle.scenario_cells.proofs.laid.put_own.Goals as goal

pub returns-clause-ok : goal.returns-clause-ok
returns-clause-ok c =
    c.in_ok-put.ensures.ok ∙ ap (insert_entry derived c.args.own.now c.args.key.now) c.in_ok-value.ensures ∙ ap (λ r. insert_entry r c.args.own.now c.args.key.now (arc_value c.args.value.now)) same_orders
