-- Results that are taken in.
use Rattle.std.specs.Prelude.{◌≡◌, ℕ, ◌+◌, List, Bool, true, false, Option, take, map}
use Rattle.std.specs.declared.sync.Arc.{Arc}
use Rattle.plan_schema.specs.declared.name.Name.{Name}
use Rattle.planning_rules.specs.Plan.{Known}
use Rattle.shared_memo.specs.Pairs.{Memo, memo, with_pair}
use Rattle.record_versions.specs.declared.version.VersionId.{VersionId}
use Rattle.walk_rules.specs.declared.key.MemoKey.{MemoKey}
use Rattle.walk_rules.specs.Cells.{Cells}
use Rattle.walk_rules.specs.Memo.{Pairs, key_eq}
use Rattle.walk_rules.specs.Walks.{Took}
use Rattle.plan_walk.specs.declared.node.Node.{Node}
use Rattle.plan_walk.specs.Nodes.{Fits, state_of}

module _ {Z : Type 0} where
  -- results, whoever shares them
  abbrev pub told : List (Name × Arc Known Z) → List (Name × Known)
  told solved = map (λ r. (r.0, r.1.value)) solved

-- what `put` did: the pair is in front, or it was dropped
abbrev pub IsPut : Bool → MemoKey → Known → Memo MemoKey Known → Memo MemoKey Known → Type 0
IsPut true key known old new = new ≡ old
IsPut false key known old new = new ≡ memo (with_pair key_eq old key known) old.most

-- so many results have been taken in, and so many of their pairs were dropped
abbrev pub TakenIn : VersionId → List Node → List (Option Known) → List (Option Known) → Pairs → Pairs → ℕ → List (Name × Known) → ℕ → ℕ → Type 0
TakenIn plan nodes start now first pairs most results done dropped =
    (cells : Cells) (netted before : ℕ) → Fits cells plan nodes → Took cells most (state_of nodes start first netted before) (take done results) dropped (state_of nodes now pairs (netted + done) before)
