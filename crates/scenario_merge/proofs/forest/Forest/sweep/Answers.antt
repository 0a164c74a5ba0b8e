use Rattle.std.proofs.Common.{sym, subst}
use Rattle.record_versions.specs.Versions.{CellList}
use Rattle.scenario_merge.specs.Grown.{grown, IsForest, IsAsBefore}
use Rattle.scenario_merge.proofs.SweepLaws.{swept}
use Rattle.scenario_merge.proofs.forest.Forest.sweep.Goals as goal

pub invariant_of-self : goal.invariant_of-self
invariant_of-self c =
    subst (λ (cells : CellList). IsForest c.self.inside.scenarios.entries cells) (sym c.sweep.ensures)
    (swept c.self.inside.scenarios.entries c.self.inside.store c.args.self.now c.args.live.now c.self.view_is c.self.invariant c.requires).0

pub returns-clause-same : goal.returns-clause-same
returns-clause-same c =
    subst (λ (cells : CellList). IsAsBefore c.args.self.now (grown c.self.inside.scenarios.entries cells)) (sym c.sweep.ensures)
    (swept c.self.inside.scenarios.entries c.self.inside.store c.args.self.now c.args.live.now c.self.view_is c.self.invariant c.requires).1
