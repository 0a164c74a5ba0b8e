-- What a reclaim leaves of the memo.
use Rattle.std.proofs.Common.{◌≡◌, ℕ, List, [], ◌∷◌, ◌++◌, refl, sym, ◌∙◌, ap, subst, Bool, true, false}
use Rattle.std.proofs.lemmas.Bool.{and_parts, and_from}
use Rattle.std.specs.Prelude.{Result, Ok, Err, OnErr}
use Rattle.std.specs.List.{AllByRecursion, list_all}
use Rattle.record_versions.specs.declared.version.VersionId.{VersionId}
use Rattle.record_versions.specs.Versions.{has_id}
use Rattle.version_rules.specs.Ids.{WorldIds, ids_after, IsLive}
use Rattle.scenario_merge.specs.Grown.{Grown, ids_of as ids_of_table, ids_in, IsGrown, IsAsBefore}
use Rattle.plan_schema.specs.Contents.{Contents}
use Rattle.plan_schema.specs.declared.change.Entry.{Entry}
use Rattle.planning_rules.specs.Plan.{Known}
use Rattle.version_rules.specs.Meaning.{meaning_after}
use Rattle.plan_walk.specs.declared.round.Tally.{Tally}
use Rattle.plan_core.specs.State.{State, state_of, ids_of}
use Rattle.plan_core.specs.Holds.{IsCore}
use Rattle.shared_memo.specs.Pairs.{Memo, Keeps, at_end, stays, goes}
use Rattle.version_reclaim.specs.Live.{IsLiveIn, AreLive}
use Rattle.version_reclaim.proofs.KeptLaws.{keeps_as}
use Rattle.version_reclaim.proofs.LiveLaws.{live_there}
use Rattle.walk_rules.specs.declared.key.MemoKey.{MemoKey}
use Rattle.walk_rules.specs.Memo.{Pairs, IsRight}
use Rattle.plan_core.specs.Keys.{key_ids}
use Rattle.plan_core.specs.Reclaims.{IsKept, KeepsLive, IsReclaimed}

-- what holds in any case holds after an error
pub on_err : {T E : Type 0} (r : Result T E) {P : Type 0} → P → OnErr r P
on_err (Ok x) p = tt
on_err (Err e) p = p

-- what holds of all pairs holds of those that are left
pub left_all : {K V : Type 0} (says : K → Bool → Type 0) (P : K × V → Type 0) (old new : List (K × V)) → Keeps says old new → AllByRecursion P old → AllByRecursion P new
left_all says P _ _ at_end h = tt
left_all says P _ _ (stays p old new said rest) h = (h.0, left_all says P old new rest h.1)
left_all says P _ _ (goes p old new said rest) h = left_all says P old new rest h.1

module _ (ids : WorldIds) (live : List VersionId) (all : (id : VersionId) → IsLive ids id → has_id live id ≡ true) (alone : (id : VersionId) → has_id live id ≡ true → IsLive ids id) where
  every_live : (some : List VersionId) → list_all (has_id live) some ≡ true → AllByRecursion (IsLive ids) some
  every_live [] h = tt
  every_live (id ∷ some) h = let both = and_parts (has_id live id) (list_all (has_id live) some) h in (alone id both.0, every_live some both.1)

  live_every : (some : List VersionId) → AllByRecursion (IsLive ids) some → list_all (has_id live) some ≡ true
  live_every [] h = refl
  live_every (id ∷ some) h = and_from (has_id live id) (list_all (has_id live) some) (all id h.0) (live_every some h.1)

  kept_by : (key : MemoKey) (t : Bool) → list_all (has_id live) (key_ids key) ≡ t → IsKept ids key t
  kept_by key true h = every_live (key_ids key) h
  kept_by key false h = λ every. absurd (clash (sym h ∙ live_every (key_ids key) every))
    where
      clash : false ≡ true → ⊥
      clash wrong = cc

-- the pairs that are left are those whose ids are all live
pub keeps_live : (forest : Grown) (ids : WorldIds) (live : List VersionId) (says : MemoKey → Bool → Type 0) (old new : Pairs)
    → ids_in forest ≡ ids → IsGrown forest → AreLive forest live → ((key : MemoKey) (t : Bool) → says key t → list_all (has_id live) (key_ids key) ≡ t)
    → Keeps says old new → KeepsLive ids old new
keeps_live forest ids live says old new same grown are means kept =
    subst (λ (u : WorldIds). KeepsLive u old new) same
    (keeps_as says (IsKept (ids_in forest)) (λ key t said. kept_by (ids_in forest) live
    (λ id lives. are.all id (live_there forest grown.gone id lives)) (λ id has. is_live (are.alone id has)) key t (means key t said)) old new kept)
  where
    is_live : {id : VersionId} → IsLiveIn forest id → IsLive (ids_in forest) id
    is_live it = record { scenario = it.scenario; cell = it.of_it.cell; of_base = it.of_it.of_base; has = it.of_it.has }

-- a core whose memo keeps some of its pairs
pub reclaimed_core : (base : Contents) (earlier entries : List Entry) (m left : Memo MemoKey Known) (tally : Tally) (old new : Grown) (before carried : ℕ) (says : MemoKey → Bool → Type 0)
    → IsCore (state_of base earlier entries m tally) old before carried → IsAsBefore old new → Keeps says m.pairs left.pairs
    → IsCore (state_of base earlier entries left tally) new before carried
reclaimed_core base earlier entries m left tally old new before carried says held same kept =
    let meaning = meaning_after base (earlier ++ entries) in
    record {
      holds = record {
        whole = held.holds.whole;
        limits = held.holds.limits;
        legal = held.holds.legal;
        few = held.holds.few;
        light = held.holds.light;
        right = left_all says (λ pair. IsRight meaning pair.0 pair.1) m.pairs left.pairs kept held.holds.right;
      };
      world = same.world ∙ held.world;
      ids = ap ids_of_table same.table ∙ held.ids;
      before_is = held.before_is;
      carried_is = held.carried_is;
    }

-- what a reclaim comes to
pub reclaims : (base : Contents) (earlier entries : List Entry) (m left : Memo MemoKey Known) (tally : Tally) (seen : State) (old : Grown) (before carried : ℕ) (live : List VersionId)
    (says : MemoKey → Bool → Type 0)
    → IsCore (state_of base earlier entries m tally) old before carried → state_of base earlier entries m tally ≡ seen → IsGrown old → left.most ≡ m.most → AreLive old live
    → ((key : MemoKey) (t : Bool) → says key t → list_all (has_id live) (key_ids key) ≡ t) → Keeps says m.pairs left.pairs
    → IsReclaimed seen (state_of base earlier entries left tally)
reclaims base earlier entries m left tally seen old before carried live says held view grown most are means kept =
    let rest : state_of base earlier entries left tally ≡ record (state_of base earlier entries m tally) { pairs = left.pairs } =
    (λ i. record { base = base; earlier = earlier; entries = entries; pairs = left.pairs; most = most i; tally = tally }) in
    record {
      same = rest ∙ ap (λ (s : State). record s { pairs = left.pairs }) view;
      kept = subst (λ (s : State). KeepsLive (ids_of s) s.pairs left.pairs) view
          (keeps_live old (ids_after base (earlier ++ entries)) live says m.pairs left.pairs held.ids grown are means kept);
    }
