use Rattle.std.proofs.Common.{◌∙◌, ap}
use Rattle.plan_schema.specs.declared.refusal.Refusal.TheVariants as refusals
use Rattle.plan_schema.specs.Refusals.{where_so}
use Rattle.scenario_merge.proofs.LineLaws.{children_are}
use Rattle.scenario_merge.proofs.tree.has_children.Goals as goal

pub returns : goal.returns
returns c = λ m. c.where_so.ensures ∙ ap (λ b. where_so b (refusals.HasChildren c.args.name.now)) (c.any_child.ensures ∙ children_are m c.args.name.now c.args.scenarios.now.entries)
