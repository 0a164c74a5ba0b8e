use Rattle.std.proofs.Common.{subst}
use Rattle.scenario_merge.specs.Grown.{Grown, IsGrown}
use Rattle.scenario_merge.proofs.ForestLaws.{forest_grown}
use Rattle.scenario_merge.proofs.forest.Forest.holds.Goals as goal

pub returns : goal.returns
returns c = subst (λ (f : Grown). IsGrown f) c.self.view_is (forest_grown c.self.inside.scenarios.entries c.self.inside.store c.self.invariant)
