use Rattle.std.proofs.Common.{◌∙◌, sym, ap}
use Rattle.std.specs.Prelude.{if◌then◌else◌}
use Rattle.std.specs.BTreeMap.{insert_entry}
use Rattle.plan_schema.specs.Key.{key_cmp}
use Rattle.plan_schema.proofs.Orders.{same_orders, derived}
use Rattle.scenario_cells.proofs.held.add_own.Goals as goal

pub returns-clause-ok : goal.returns-clause-ok
returns-clause-ok c =
    let own = c.args.own.now in
    let key = c.args.key.now in
    c.in_ok-put.ensures.ok ∙ ap (insert_entry derived own key) c.in_ok-value.ensures.ok ∙ ap (λ r. insert_entry r own key c.args.value.now) same_orders
    ∙ sym (ap (λ b. if b then own else insert_entry key_cmp own key c.args.value.now) c.if-root.false)
