use Rattle.std.proofs.Common.{◌∙◌, ap}
use Rattle.scenario_rules.specs.Refused.{scenario_refusal}
use Rattle.scenario_merge.specs.Grown.{Grown}
use Rattle.scenario_merge.proofs.forest.Forest.refusal.Goals as goal

pub returns : goal.returns
returns c = c.first_refusal.ensures ∙ ap (λ (f : Grown). scenario_refusal f.world c.args.user.now c.args.change.now) c.self.view_is
