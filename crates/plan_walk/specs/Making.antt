-- How the graph of a walk's parts is made: part by part, each after its parents.
use Rattle.std.specs.Prelude.{◌≡◌, ℕ, List, [], ◌∷◌, ◌++◌, ◌⊎◌, true, ◌==◌, Option, option_map, map, length}
use Rattle.std.specs.List.{AllByRecursion, list_any}
use Rattle.plan_schema.specs.declared.name.Name.{Name}
use Rattle.plan_schema.specs.declared.change.CellName.TheVariants as names
use Rattle.planning_rules.specs.Bills.{parents}
use Rattle.record_versions.specs.declared.version.VersionId.{VersionId}
use Rattle.walk_rules.specs.Cells.{Cells, records, version_in}
use Rattle.walk_rules.specs.Steps.{calendar_in}
use Rattle.plan_walk.specs.declared.node.Node.{Node}
use Rattle.plan_walk.specs.Places.{StandAt}
use Rattle.plan_walk.specs.Nodes.{downs_at, node_names, IsGraph}

-- a part without the places of its components
pub record Bare : Type 0 where
  pub name : Name
  pub part : VersionId
  pub calendar : Option VersionId
  pub ups : List ℕ

abbrev pub bare : Node → Bare
bare node = record { name = node.name; part = node.part; calendar = node.calendar; ups = node.ups.items }

abbrev pub bares : List Node → List Bare
bares nodes = map bare nodes

-- a part has the versions of its cells, and at its parents' places stand its parents
pub record IsKeyed (cells : Cells) (ns : List Name) (b : Bare) : Type 0 where
  pub part : b.part ≡ version_in cells (names.Part b.name)
  pub calendar : b.calendar ≡ option_map (λ k. version_in cells (names.Cal k)) (calendar_in (records cells) b.name)
  pub stand : StandAt ns b.ups (parents (records cells) b.name)

-- a part of this name, with no components yet
pub record IsNew (cells : Cells) (ns : List Name) (n : Name) (node : Node) : Type 0 where
  pub named : node.name ≡ n
  pub keyed : IsKeyed cells ns (bare node)
  pub alone : node.downs.items ≡ []

-- a place has been put among the components of these, and nothing else has changed
pub record Linked (place : ℕ) (ups : List ℕ) (old now : List Node) : Type 0 where
  pub same : bares now ≡ bares old
  pub kept : (i k : ℕ) → list_any (λ q. q == k) (downs_at old i) ≡ true → list_any (λ q. q == k) (downs_at now i) ≡ true
  pub added : (i : ℕ) → list_any (λ q. q == i) ups ≡ true → list_any (λ q. q == place) (downs_at now i) ≡ true
  pub only : (i k : ℕ) → list_any (λ q. q == k) (downs_at now i) ≡ true → (list_any (λ q. q == k) (downs_at old i) ≡ true) ⊎ ((k ≡ place) × (list_any (λ q. q == i) ups ≡ true))

-- a part has been appended, and put among the components of its parents
pub record Joins (old : List Node) (node : Node) (new : List Node) : Type 0 where
  pub now : List Node
  pub linked : Linked (length old) node.ups.items old now
  pub appended : new ≡ now ++ node ∷ []

-- these are the parts of these names, in their order
pub record AreMade (cells : Cells) (ns : List Name) (nodes : List Node) : Type 0 where
  pub named : node_names nodes ≡ ns
  pub graph : IsGraph nodes
  pub keyed : AllByRecursion (IsKeyed cells ns) (bares nodes)
