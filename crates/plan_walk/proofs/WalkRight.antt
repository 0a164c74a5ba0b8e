-- A settling keeps what is known right, and the memo.
use Rattle.std.proofs.Common.{ℕ, List, take, sym, subst}
use Rattle.std.specs.Prelude.{Option}
use Rattle.std.specs.List.{AllByRecursion}
use Rattle.plan_schema.specs.declared.name.Name.{Name}
use Rattle.planning_rules.specs.Plan.{Known}
use Rattle.record_versions.specs.declared.version.VersionId.{VersionId}
use Rattle.walk_rules.specs.Cells.{Cells, records}
use Rattle.version_rules.specs.Meaning.{Meaning}
use Rattle.walk_rules.specs.Memo.{Pairs, MemoRight}
use Rattle.walk_rules.specs.Walks.{names_of}
use Rattle.walk_rules.specs.Rights.{HasCells, AreRight, IsResult}
use Rattle.walk_rules.proofs.KeptRight.{Right, hits_right}
use Rattle.walk_rules.proofs.TookRight.{took_right, taken_part}
use Rattle.plan_walk.specs.declared.node.Node.{Node}
use Rattle.plan_walk.specs.declared.round.Tally.{Tally}
use Rattle.plan_walk.specs.Places.{parts_of}
use Rattle.plan_walk.specs.Nodes.{Fits, node_names, state_of}
use Rattle.plan_walk.specs.Results.{TakenIn}
use Rattle.plan_walk.specs.Settled.{SettledBy, AreSound}

module _ (m : Meaning) (cells : Cells) (nodes : List Node) (start : List (Option Known)) (first : Pairs) (results : List (Name × Known)) (sound : AreSound m cells nodes start first results) (memo_right : MemoRight m first) where
  begin_right : Right m cells (state_of nodes start first 0 0)
  begin_right = record { known = sound.known; memo = memo_right }

  -- however many results were taken in, the memo is right
  pub memo_after : (plan : VersionId) (now : List (Option Known)) (pairs : Pairs) (most done n : ℕ) → Fits cells plan nodes → TakenIn plan nodes start now first pairs most results done n → MemoRight m pairs
  memo_after plan now pairs most done n fits taken =
      (took_right m cells sound.meant most (state_of nodes start first 0 0) begin_right (take done results) n _ (taken cells 0 0 fits) (taken_part (IsResult cells (state_of nodes start first 0 0)) done results sound.results_are)).0.memo

  -- after a settling all that is known is right
  pub right_after : (now : List (Option Known)) (pairs : Pairs) (most : ℕ) (next : List ℕ) (tally : Tally) → SettledBy cells nodes most start now first pairs results next tally → AreRight (records cells) (parts_of (node_names nodes) now)
  right_after now pairs most next tally s =
      let took = took_right m cells sound.meant most (state_of nodes start first 0 0) begin_right results tally.dropped s.middle s.took sound.results_are in
      let after = hits_right m cells sound.meant (names_of s.middle.parts) s.middle (subst (AllByRecursion (HasCells cells)) (sym s.names) sound.has) took.0 in
      (subst (Right m cells) s.hits after).known
