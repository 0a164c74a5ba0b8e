-- Why a core refuses a change.
use Rattle.std.proofs.Common.{◌≡◌, ℕ, ◌+◌, List, [], ◌∷◌, ◌++◌, length, refl, sym, ◌∙◌, ap, Bool, ◌||◌, nat_le, nat_lt}
use Rattle.std.specs.Prelude.{Option, Some, None, unwrap_or}
use Rattle.plan_schema.specs.declared.name.Name.{Name}
use Rattle.plan_schema.specs.declared.change.Change.{Change}
use Rattle.plan_schema.specs.declared.change.Entry.{Entry}
use Rattle.plan_schema.specs.declared.refusal.Refusal.{Refusal}
use Rattle.plan_schema.specs.Contents.{Contents}
use Rattle.plan_schema.specs.declared.refusal.Refusal.TheVariants as refusals
use Rattle.plan_schema.specs.declared.refusal.Room.TheVariants as rooms
use Rattle.plan_schema.specs.declared.limits.TheConstants.{ENTRY_LIMIT, CARRIED_LIMIT}
use Rattle.plan_schema.specs.Refusals.{first_of, where_so}
use Rattle.planning_rules.specs.Plan.{Known}
use Rattle.scenario_rules.specs.Refused.{record_count, record_counts, scenario_refusal, full_journal}
use Rattle.scenario_merge.specs.Grown.{Grown}
use Rattle.shared_memo.specs.Pairs.{Memo}
use Rattle.walk_rules.specs.declared.key.MemoKey.{MemoKey}
use Rattle.plan_walk.specs.declared.round.Tally.{Tally}
use Rattle.plan_core.specs.State.{State, state_of, history}
use Rattle.plan_core.specs.Holds.{IsCore}
use Rattle.plan_core.specs.Changes.{refusal_of}

first_full : (a : Option Refusal) (full : Refusal) → first_of (a ∷ Some full ∷ []) ≡ Some (unwrap_or a full)
first_full None full = refl
first_full (Some r) full = refl

last_one : (o : Option Refusal) → first_of (o ∷ []) ≡ o
last_one None = refl
last_one (Some r) = refl

-- the journal's refusal by numbers
pub full_is : (h : List Entry) (change : Change) (t : Bool) (point carried count : ℕ) → t ≡ (nat_le ENTRY_LIMIT point || nat_lt CARRIED_LIMIT (carried + count)) → point ≡ length h → carried ≡ record_counts h
    → count ≡ record_count change → full_journal h change ≡ where_so t (refusals.Full rooms.Journal)
full_is h change t point carried count is point_is carried_is count_is =
    sym (ap (λ b. where_so b (refusals.Full rooms.Journal)) is ∙ λ i. where_so (nat_le ENTRY_LIMIT (point_is i) || nat_lt CARRIED_LIMIT (carried_is i + count_is i)) (refusals.Full rooms.Journal))

module _ (base : Contents) (earlier entries : List Entry) (m : Memo MemoKey Known) (tally : Tally) (forest : Grown) (before carried : ℕ) (seen : State)
    (core : IsCore (state_of base earlier entries m tally) forest before carried) (view : state_of base earlier entries m tally ≡ seen) (user : Name) (change : Change) where
  -- the scenarios' refusal comes first, and then the journal's
  pub refusal_is : (r : Option Refusal) → r ≡ scenario_refusal forest.world user change → refusal_of seen user change ≡ first_of (r ∷ full_journal (history seen) change ∷ [])
  unfolding refusal_of
  refusal_is r is =
      sym (ap (λ (s : State). refusal_of s user change) view)
      ∙ (λ i. first_of (scenario_refusal (sym core.world i) user change ∷ full_journal (earlier ++ entries) change ∷ []))
      ∙ (λ i. first_of (sym is i ∷ full_journal (history (view i)) change ∷ []))

  pub refused_by_scenarios : (refusal : Refusal) → Some refusal ≡ scenario_refusal forest.world user change → refusal_of seen user change ≡ Some refusal
  refused_by_scenarios refusal is = refusal_is (Some refusal) is

  pub refused_full : (r : Option Refusal) (full : Refusal) → r ≡ scenario_refusal forest.world user change → Some full ≡ full_journal (history seen) change → refusal_of seen user change ≡ Some (unwrap_or r full)
  refused_full r full is no_room = refusal_is r is ∙ ap (λ j. first_of (r ∷ j ∷ [])) (sym no_room) ∙ first_full r full

  pub refused_by_journal : None ≡ scenario_refusal forest.world user change → refusal_of seen user change ≡ full_journal (history seen) change
  refused_by_journal is = refusal_is None is ∙ last_one (full_journal (history seen) change)

  pub not_refused_here : None ≡ scenario_refusal forest.world user change → full_journal (history seen) change ≡ None → refusal_of seen user change ≡ None
  not_refused_here is room = refused_by_journal is ∙ room
