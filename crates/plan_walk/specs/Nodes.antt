-- The parts of a walk as the code holds them.
use Rattle.std.specs.Prelude.{◌≡◌, ℕ, zero, suc, ◌<◌, List, [], ◌∷◌, true, ◌==◌, Option, Some, option_map, map, slice_get, length, unwrap_or}
use Rattle.std.specs.List.{AllByRecursion, list_any}
use Rattle.std.specs.declared.sync.Arc.{Arc}
use Rattle.plan_schema.specs.declared.name.Name.{Name}
use Rattle.plan_schema.specs.declared.change.CellName.TheVariants as names
use Rattle.planning_rules.specs.Bills.{parents}
use Rattle.planning_rules.specs.Plan.{Known}
use Rattle.record_versions.specs.declared.version.VersionId.{VersionId}
use Rattle.walk_rules.specs.declared.key.MemoKey.{MemoKey}
use Rattle.walk_rules.specs.Cells.{Cells, records, version_in}
use Rattle.walk_rules.specs.Steps.{calendar_in}
use Rattle.plan_walk.specs.declared.node.Node.{Node}
use Rattle.plan_walk.specs.Places.{AreDistinct, StandAt, parts_of}
use Rattle.walk_rules.specs.Memo.{Pairs}
use Rattle.walk_rules.specs.Walks.{State}

abbrev pub node_names : List Node → List Name
node_names nodes = map (λ node. node.name) nodes

-- the places of the parents of the part at a place, and those of its components
abbrev pub ups_at : List Node → ℕ → List ℕ
ups_at [] i = []
ups_at (node ∷ nodes) zero = node.ups.items
ups_at (node ∷ nodes) (suc i) = ups_at nodes i

abbrev pub downs_at : List Node → ℕ → List ℕ
downs_at [] i = []
downs_at (node ∷ nodes) zero = node.downs.items
downs_at (node ∷ nodes) (suc i) = downs_at nodes i

-- the key of a part, from what its node keeps
abbrev pub node_key : VersionId → Node → List (List ℕ) → MemoKey
node_key plan node lists = record { part = node.part; calendar = node.calendar; plan = plan; releases = lists }

-- the names differ, the parents of each node stand before it, and its components after it
pub record IsGraph (nodes : List Node) : Type 0 where
  pub distinct : AreDistinct (node_names nodes)
  pub before : (i : ℕ) → AllByRecursion (λ q. q < i) (ups_at nodes i)
  pub below : (i k : ℕ) → list_any (λ q. q == i) (ups_at nodes k) ≡ true → list_any (λ q. q == k) (downs_at nodes i) ≡ true
  pub after : (i : ℕ) → AllByRecursion (λ k. (i < k) × (k < length nodes)) (downs_at nodes i)

-- the nodes are those of parts of these cells: each has the versions of its cells, and its parents' places are those of its parents
pub record Fits (cells : Cells) (plan : VersionId) (nodes : List Node) : Type 0 where
  pub plan_is : plan ≡ version_in cells names.Plan
  pub keyed : (i : ℕ) (node : Node) → slice_get nodes i ≡ Some node
      → (node.part ≡ version_in cells (names.Part node.name)) × (node.calendar ≡ option_map (λ k. version_in cells (names.Cal k)) (calendar_in (records cells) node.name))
  pub above : (i : ℕ) (n : Name) → slice_get (node_names nodes) i ≡ Some n → StandAt (node_names nodes) (ups_at nodes i) (parents (records cells) n)

-- what the walk and the memo have come to
abbrev pub state_of : List Node → List (Option Known) → Pairs → ℕ → ℕ → State
state_of nodes known pairs netted reused = record { parts = parts_of (node_names nodes) known; pairs = pairs; netted = netted; reused = reused }

-- the names at places
abbrev pub names_at : List Name → List ℕ → List Name
names_at ns places = map (λ q. unwrap_or (slice_get ns q) []) places

module _ {Z : Type 0} where
  -- what is known at the places, whoever shares it
  abbrev pub shown : List (Option (Arc Known Z)) → List (Option Known)
  shown known = map (option_map (λ a. a.value)) known
