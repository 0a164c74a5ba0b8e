-- A core whose memo and tally change.
use Rattle.std.proofs.Common.{◌≡◌, ℕ, List, ◌++◌, refl, sym, ◌∙◌, ap, subst}
use Rattle.plan_schema.specs.declared.name.Name.{Name}
use Rattle.plan_schema.specs.declared.change.Entry.{Entry}
use Rattle.plan_schema.specs.Contents.{Contents}
use Rattle.planning_rules.specs.Plan.{Known}
use Rattle.version_rules.specs.Meaning.{meaning_after}
use Rattle.scenario_merge.specs.Grown.{Grown}
use Rattle.shared_memo.specs.Pairs.{Memo}
use Rattle.walk_rules.specs.declared.key.MemoKey.{MemoKey}
use Rattle.walk_rules.specs.Memo.{MemoRight}
use Rattle.plan_walk.specs.declared.round.Round.{Round}
use Rattle.plan_walk.specs.declared.round.Tally.{Tally}
use Rattle.plan_walk.specs.View.{View}
use Rattle.plan_walk.specs.Walk.{Settles}
use Rattle.plan_core.specs.State.{State, state_of, added}
use Rattle.plan_core.specs.Holds.{IsCore}
use Rattle.plan_core.specs.Rounds.{HasRound, IsCutShort}

module _ (base : Contents) (earlier entries : List Entry) (m later : Memo MemoKey Known) (tally : Tally) (forest : Grown) (before carried : ℕ) where
  pub tally_changed : IsCore (state_of base earlier entries m tally) forest before carried → (other : Tally) → IsCore (state_of base earlier entries m other) forest before carried
  tally_changed core other = record {
    holds = record { whole = core.holds.whole; limits = core.holds.limits; legal = core.holds.legal; few = core.holds.few; light = core.holds.light; right = core.holds.right };
    world = core.world;
    ids = core.ids;
    before_is = core.before_is;
    carried_is = core.carried_is;
  }

  pub memo_changed : IsCore (state_of base earlier entries m tally) forest before carried → MemoRight (meaning_after base (earlier ++ entries)) later.pairs
      → IsCore (state_of base earlier entries later tally) forest before carried
  memo_changed core right = record {
    holds = record { whole = core.holds.whole; limits = core.holds.limits; legal = core.holds.legal; few = core.holds.few; light = core.holds.light; right = right };
    world = core.world;
    ids = core.ids;
    before_is = core.before_is;
    carried_is = core.carried_is;
  }

  pub cut_short : (seen : State) → state_of base earlier entries m tally ≡ seen → later.most ≡ m.most → IsCutShort seen (state_of base earlier entries later tally)
  cut_short seen view most =
      let here : state_of base earlier entries later tally ≡ record (state_of base earlier entries m tally) { pairs = later.pairs } =
      (λ i. record { base = base; earlier = earlier; entries = entries; pairs = later.pairs; most = most i; tally = tally }) in
      here ∙ ap (λ (s : State). record s { pairs = later.pairs }) view

  pub has_round : (seen new : State) (walk walk_then : View) (solved : List (Name × Known)) (round : Round) (work : Tally) → state_of base earlier entries m tally ≡ seen → later.most ≡ m.most
      → Settles walk walk_then m.pairs later.pairs m.most solved round work → (mid : State) → state_of base earlier entries later tally ≡ mid → new ≡ record mid { tally = added mid.tally work }
      → HasRound seen new walk walk_then solved round
  has_round seen new walk walk_then solved round work view most settles mid is_mid is =
      let after : State = record { base = base; earlier = earlier; entries = entries; pairs = later.pairs; most = m.most; tally = added tally work } in
      let same : new ≡ after =
      is ∙ ap (λ (s : State). record s { tally = added s.tally work }) (sym is_mid)
      ∙ (λ i. record { base = base; earlier = earlier; entries = entries; pairs = later.pairs; most = most i; tally = added tally work }) in
      subst (λ (s : State). HasRound s new walk walk_then solved round) view
      (subst (λ (s : State). HasRound (state_of base earlier entries m tally) s walk walk_then solved round) (sym same) (record { work = work; settles = settles; same = refl }))
