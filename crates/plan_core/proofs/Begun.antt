-- A core that begins.
use Rattle.std.proofs.Common.{◌≡◌, ℕ, ◌≤◌, List, [], refl, sym, subst, arith}
use Rattle.plan_schema.specs.declared.change.Entry.{Entry}
use Rattle.plan_schema.specs.declared.limits.TheConstants.{ENTRY_LIMIT, CARRIED_LIMIT}
use Rattle.plan_schema.specs.Contents.{Contents}
use Rattle.scenario_rules.specs.World.{begin_with}
use Rattle.scenario_rules.specs.Whole.{AreWholeContents, AreWithinLimits}
use Rattle.version_rules.specs.Ids.{begin_ids}
use Rattle.scenario_merge.specs.Grown.{Grown, ids_in}
use Rattle.planning_rules.specs.Plan.{Known}
use Rattle.shared_memo.specs.Pairs.{Memo, memo}
use Rattle.walk_rules.specs.declared.key.MemoKey.{MemoKey}
use Rattle.plan_walk.specs.declared.round.Tally.{Tally}
use Rattle.plan_core.specs.State.{state_of}
use Rattle.plan_core.specs.Holds.{IsCore}

least : (n : ℕ) → 0 ≤ n
least n = omega arith

-- a core that begins
pub begun : (contents base : Contents) (earlier entries : List Entry) (m : Memo MemoKey Known) (most : ℕ) (tally : Tally) (forest : Grown)
    → base ≡ contents → earlier ≡ [] → entries ≡ [] → m ≡ memo [] most → AreWholeContents contents → AreWithinLimits contents
    → forest.world ≡ begin_with contents → ids_in forest ≡ begin_ids contents → IsCore (state_of base earlier entries m tally) forest 0 0
begun contents base earlier entries m most tally forest same_base no_earlier no_entries no_pairs whole limits world ids =
    let P : Contents × List Entry × List Entry × Memo MemoKey Known → Type 0 = λ x. IsCore (state_of x.0 x.1 x.2 x.3 tally) forest 0 0 in
    subst P (sym (λ i. (same_base i, no_earlier i, no_entries i, no_pairs i))) (record {
      holds = record {
        whole = whole;
        limits = limits;
        legal = record { sound = λ k. tt; accepted = λ k. tt };
        few = least ENTRY_LIMIT;
        light = least CARRIED_LIMIT;
        right = tt;
      };
      world = world;
      ids = ids;
      before_is = refl;
      carried_is = refl;
    })
