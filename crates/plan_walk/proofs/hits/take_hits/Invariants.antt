use Rattle.std.proofs.Common.{◌≡◌, ℕ, ◌<◌, length}
use Rattle.std.specs.Prelude.{slice_get, Some}
use Rattle.version_rules.specs.Meaning.{Meaning}
use Rattle.walk_rules.specs.Memo.{MemoRight}
use Rattle.plan_walk.specs.Nodes.{shown}
use Rattle.plan_walk.proofs.SoFar.{SoFar, room}
use Rattle.plan_walk.proofs.hits.take_hits.Given as goal

abbrev pub invariant-loop-place : goal.invariant-loop-place
invariant-loop-place l = record {
  so_far : SoFar l.plan l.nodes (shown l.initial.known) (shown l.known) l.initial.memo.pairs l.memo.pairs l.front.items l.waiting l.reused;
  places : (k q : ℕ) → slice_get l.front.items k ≡ Some q → q < length l.nodes;
  right : (m : Meaning) → MemoRight m l.initial.memo.pairs → MemoRight m l.memo.pairs;
  most : l.memo.most ≡ l.initial.memo.most;
}

abbrev pub decreases-loop-place : goal.decreases-loop-place
decreases-loop-place l = room (length l.nodes) l.waiting
