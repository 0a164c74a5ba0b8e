use Rattle.std.proofs.Common.{◌≡◌, ◌∙◌, ap}
use Rattle.std.specs.Map.{lookup}
use Rattle.std.specs.BTreeMap.{insert_entry, is_at}
use Rattle.std.proofs.lemmas.Result.{on_ok_weaker, IfOk-weaker}
use Rattle.plan_schema.specs.Contents.{with_record, record_at}
use Rattle.plan_schema.proofs.Orders.{same_orders, derived}
use Rattle.plan_schema.proofs.contents.Contents.put.Goals as goal

pub returns-clause-ok : goal.returns-clause-ok
returns-clause-ok c =
    on_ok_weaker c.put_in.result (λ (e : c.put_in.new.map.entries ≡ insert_entry derived c.self.inside.records.entries c.args.key c.args.value).
    e ∙ ap (λ r. insert_entry r c.self.inside.records.entries c.args.key c.args.value) same_orders ∙ ap (λ es. with_record es c.args.key c.args.value) c.self.view_is)
    c.put_in.ensures.ok

pub returns-clause-before : goal.returns-clause-before
returns-clause-before c =
    IfOk-weaker c.put_in.result _ _ (λ before e.
    e ∙ ap (λ r. lookup (is_at (r c.args.key)) c.self.inside.records.entries) same_orders ∙ ap (λ es. record_at es c.args.key) c.self.view_is)
    c.put_in.ensures.before
