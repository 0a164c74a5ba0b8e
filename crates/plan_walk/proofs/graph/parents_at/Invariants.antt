use Rattle.std.proofs.Common.{ℕ, List, ◌++◌}
use Rattle.std.specs.Prelude.{Contains}
use Rattle.std.specs.List.{AllByRecursion, filter_map}
use Rattle.planning_rules.specs.Bills.{parent_in}
use Rattle.plan_walk.specs.Places.{StandAt}
use Rattle.plan_walk.proofs.graph.parents_at.Given as goal

abbrev pub invariant-loop-key : goal.invariant-loop-key
invariant-loop-key l = record {
  stand : (rest : List ℕ) → StandAt l.places rest (filter_map parent_in l.key-iterator) → StandAt l.places (l.ups.items ++ rest) (filter_map parent_in l.cell);
  there : AllByRecursion (Contains l.places) (filter_map parent_in l.key-iterator);
}
