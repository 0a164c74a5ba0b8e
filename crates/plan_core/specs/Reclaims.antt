-- What is left of the memo when the ids that no scenario has are given back.
use Rattle.std.specs.Prelude.{◌≡◌, Bool, true, false}
use Rattle.std.specs.List.{AllByRecursion}
use Rattle.version_rules.specs.Ids.{WorldIds, IsLive}
use Rattle.shared_memo.specs.Pairs.{Keeps}
use Rattle.walk_rules.specs.declared.key.MemoKey.{MemoKey}
use Rattle.walk_rules.specs.Memo.{Pairs}
use Rattle.plan_core.specs.Keys.{key_ids}
use Rattle.plan_core.specs.State.{State, ids_of}

-- all of them are live: some scenario's base or contents has them
abbrev pub AreKeyIdsLive : WorldIds → MemoKey → Type 0
AreKeyIdsLive ids key = AllByRecursion (IsLive ids) (key_ids key)

-- whether a key is kept: exactly where all its ids are live
abbrev pub IsKept : WorldIds → MemoKey → Bool → Type 0
IsKept ids key true = AreKeyIdsLive ids key
IsKept ids key false = AreKeyIdsLive ids key → ⊥

-- the pairs that are left are, in order, those whose ids are all live
abbrev pub KeepsLive : WorldIds → Pairs → Pairs → Type 0
KeepsLive ids pairs left = Keeps (IsKept ids) pairs left

-- a reclaim: nothing but the memo changes
pub record IsReclaimed (old new : State) : Type 0 where
  pub same : new ≡ record old { pairs = new.pairs }
  pub kept : KeepsLive (ids_of old) old.pairs new.pairs
