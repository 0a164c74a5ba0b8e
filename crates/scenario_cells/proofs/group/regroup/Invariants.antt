use Rattle.std.proofs.Common.{◌≡◌, ◌++◌, []}
use Rattle.plan_schema.specs.Contents.{Contents}
use Rattle.scenario_rules.specs.World.{laid_over}
use Rattle.scenario_rules.specs.Steps.{all_put}
use Rattle.scenario_cells.specs.Grouped.{IsGrouped}
use Rattle.scenario_cells.proofs.group.regroup.Given as goal

abbrev pub invariant-loop-key : goal.invariant-loop-key
invariant-loop-key l = (done : Contents) × (l.contents ≡ done ++ l.key-iterator) × IsGrouped (laid_over [] (all_put done)) l.store l.ids
