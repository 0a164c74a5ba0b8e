use Rattle.std.proofs.Common.{[], take}
use Rattle.plan_core.specs.Behind.{HasEntered}
use Rattle.plan_core.proofs.kept.Core.enter_all.Given as goal

abbrev pub invariant-loop-entry : goal.invariant-loop-entry
invariant-loop-entry l = HasEntered l.initial.self.base l.initial.self.most [] (take l.entry-index l.entries) l.self
