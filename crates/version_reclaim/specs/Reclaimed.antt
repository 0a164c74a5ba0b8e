-- What is left of a store and of a memo when what no scenario uses was given back.
use Rattle.std.specs.Prelude.{◌≡◌, Bool, List}
use Rattle.std.specs.Borrow.{Bor}
use Rattle.std.specs.Fn.{Shared, FnReturns}
use Rattle.record_versions.specs.declared.version.VersionId.{VersionId}
use Rattle.record_versions.specs.Versions.{only_live}
use Rattle.scenario_merge.specs.Grown.{Grown}
use Rattle.shared_memo.specs.Pairs.{Keeps}
use Rattle.version_reclaim.specs.Live.{AreLive}

-- a call of a test on a key with a set of ids answered so
pub record Answers {F K : Type 0} (g : Shared F (Bor K × (Bor (List VersionId) × Unit {0})) Bool) (f : F) (live : List VersionId) (key : K) (answer : Bool) : Type 0 where
  pub shown : Bor K
  pub shows : shown.now ≡ key
  pub set : Bor (List VersionId)
  pub has : set.now ≡ live
  pub says : FnReturns g f (shown, (set, tt)) answer

-- the store has the cells of exactly the live ids, as they were, and the memo, in order, the pairs whose key the test accepts with
-- these ids
pub record IsReclaimed {K V : Type 0} (answers : List VersionId → K → Bool → Type 0) (old new : Grown) (pairs left : List (K × V)) : Type 0 where
  pub live : List VersionId
  pub are_live : AreLive old live
  pub store : new.store ≡ only_live live old.store
  pub memo : Keeps (answers live) pairs left
