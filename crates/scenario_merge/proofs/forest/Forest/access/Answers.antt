use Rattle.std.proofs.Common.{◌∙◌, ap}
use Rattle.scenario_rules.specs.Refused.{access_refusal}
use Rattle.record_versions.specs.Versions.{cell_at}
use Rattle.scenario_merge.specs.Grown.{Grown}
use Rattle.scenario_merge.proofs.forest.Forest.access.Goals as goal

pub returns : goal.returns
returns c = c.access.ensures (cell_at c.self.inside.store) ∙ ap (λ (f : Grown). access_refusal f.world c.args.user.now c.args.name.now) c.self.view_is
