-- One settling, by places.
use Rattle.std.specs.Prelude.{◌≡◌, ℕ, List, Option}
use Rattle.std.specs.List.{AllByRecursion}
use Rattle.version_rules.specs.Meaning.{Meaning}
use Rattle.walk_rules.specs.Rights.{AreMeantCells, HasCells, AreRight, IsResult}
use Rattle.plan_schema.specs.declared.name.Name.{Name}
use Rattle.planning_rules.specs.Plan.{Known}
use Rattle.walk_rules.specs.Cells.{Cells, records}
use Rattle.walk_rules.specs.Memo.{Pairs}
use Rattle.walk_rules.specs.Walks.{State, Took, with_hits, frontier, names_of}
use Rattle.plan_walk.specs.declared.node.Node.{Node}
use Rattle.plan_walk.specs.declared.round.Tally.{Tally}
use Rattle.plan_walk.specs.Places.{parts_of}
use Rattle.plan_walk.specs.Nodes.{node_names, names_at, state_of}

-- the results are taken in, then all hits are, and the places of the next frontier are left
pub record SettledBy (cells : Cells) (nodes : List Node) (most : ℕ) (start now : List (Option Known)) (first pairs : Pairs) (results : List (Name × Known)) (next : List ℕ) (tally : Tally) : Type 0 where
  pub middle : State
  pub names : names_of middle.parts ≡ node_names nodes
  pub took : Took cells most (state_of nodes start first 0 0) results tally.dropped middle
  pub hits : with_hits cells middle ≡ state_of nodes now pairs tally.netted tally.reused
  pub front : frontier (records cells) (parts_of (node_names nodes) now) ≡ names_at (node_names nodes) next

-- what has to hold of the cells, of what is known and of the results, so that a right memo stays right
pub record AreSound (m : Meaning) (cells : Cells) (nodes : List Node) (start : List (Option Known)) (first : Pairs) (results : List (Name × Known)) : Type 0 where
  pub meant : AreMeantCells m cells
  pub has : AllByRecursion (HasCells cells) (node_names nodes)
  pub known : AreRight (records cells) (parts_of (node_names nodes) start)
  pub results_are : AllByRecursion (IsResult cells (state_of nodes start first 0 0)) results
