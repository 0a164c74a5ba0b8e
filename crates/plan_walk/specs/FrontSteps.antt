-- What the netting of a frontier needs of each part, and what it comes to.
use Rattle.std.specs.Prelude.{◌≡◌, ℕ, List, true, Option, Some, map, length, slice_get}
use Rattle.std.specs.List.{list_all, filter_map}
use Rattle.plan_schema.specs.declared.name.Name.{Name}
use Rattle.planning_rules.specs.Bills.{bills_of}
use Rattle.planning_rules.specs.Days.{days_of}
use Rattle.planning_rules.specs.Plan.{Known, has_outcome}
use Rattle.walk_rules.specs.Cells.{Cells, records}
use Rattle.walk_rules.specs.Steps.{step_from}
use Rattle.walk_rules.specs.Walks.{Parts, result_of}
use Rattle.explosion.specs.Sums.{AreReleases}
use Rattle.plan_walk.specs.declared.node.Node.{Node}
use Rattle.plan_walk.specs.Places.{parts_of, known_in, lists_at}
use Rattle.plan_walk.specs.Nodes.{node_names, names_at}
use Rattle.plan_walk.specs.Walk.{CanStep}

-- the part at a place of the frontier can be netted: it has its cells, its parents have outcomes, and its step from their releases is
-- its result
pub record AtFront (cells : Cells) (nodes : List Node) (ks : List (Option Known)) (front : List ℕ) (k : ℕ) (node : Node) : Type 0 where
  pub can : CanStep cells node.name
  pub outcomes : list_all (λ q. has_outcome (known_in ks q)) node.ups.items ≡ true
  pub lists : AreReleases (days_of (records cells)) (lists_at ks node.ups.items)
  pub each : length (bills_of (records cells) node.name) ≡ length (lists_at ks node.ups.items)
  pub result : (known : Known) → step_from (records cells) node.name (lists_at ks node.ups.items) ≡ Some known
      → result_of cells (parts_of (node_names nodes) ks) node.name ≡ Some (node.name, known)
  pub named : slice_get (names_at (node_names nodes) front) k ≡ Some node.name

abbrev pub AreAtFront : Cells → List Node → List (Option Known) → List ℕ → Type 0
AreAtFront cells nodes ks front = (k place : ℕ) (node : Node) → slice_get front k ≡ Some place → slice_get nodes place ≡ Some node → AtFront cells nodes ks front k node

-- each of some names has its result
pub record AreNetted (cells : Cells) (parts : Parts) (names : List Name) (results : List (Name × Known)) : Type 0 where
  pub found : filter_map (result_of cells parts) names ≡ results
  pub named : map (λ r. r.0) results ≡ names
