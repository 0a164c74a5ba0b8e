use Rattle.std.proofs.Common.{◌∙◌, ap}
use Rattle.std.specs.BTreeMap.{insert_entry}
use Rattle.plan_schema.specs.Contents.{with_record}
use Rattle.plan_schema.proofs.Orders.{same_orders, derived}
use Rattle.record_versions.proofs.cell.Cell.with.Goals as goal

pub returns : goal.returns
returns c =
    c.in_ok-with.ensures ∙ ap (insert_entry derived c.self.inside.rows c.args.key) c.in_ok-new.ensures.ok
    ∙ ap (λ r. insert_entry r c.self.inside.rows c.args.key c.args.value) same_orders ∙ ap (λ es. with_record es c.args.key c.args.value) c.self.view_is
