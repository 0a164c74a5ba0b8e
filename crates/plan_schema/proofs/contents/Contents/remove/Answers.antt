use Rattle.std.proofs.Common.{◌∙◌, ap}
use Rattle.std.specs.Map.{lookup, remove_entry}
use Rattle.std.specs.BTreeMap.{is_at}
use Rattle.plan_schema.specs.Contents.{record_at, without_key}
use Rattle.plan_schema.proofs.Orders.{same_orders}
use Rattle.plan_schema.proofs.contents.Contents.remove.Goals as goal

pub returns-clause-taken : goal.returns-clause-taken
returns-clause-taken c = c.remove.ensures.value ∙ ap (λ r. lookup (is_at (r c.args.key.now)) c.self.inside.records.entries) same_orders ∙ ap (λ es. record_at es c.args.key.now) c.self.view_is

pub returns-clause-after : goal.returns-clause-after
returns-clause-after c = c.remove.ensures.entries ∙ ap (λ r. remove_entry (is_at (r c.args.key.now)) c.self.inside.records.entries) same_orders ∙ ap (λ es. without_key es c.args.key.now) c.self.view_is
