-- Entering the entries of an earlier journal one after another.
use Rattle.std.proofs.Common.{◌≡◌, ◌⊎◌, inl, inr, ℕ, List, [], ◌∷◌, ◌++◌, refl, sym, ◌∙◌, ap, subst, Bool, true, false, take, get_or, ◌<◌}
use Rattle.std.specs.Prelude.{Some, length}
use Rattle.std.specs.List.{slice_get, list_all}
use Rattle.std.proofs.lemmas.List.{length-take-le}
use Rattle.std.proofs.lemmas.List.Folds.{list_all_at}
use Rattle.plan_schema.specs.Sound.{is_sound_entry}
use Rattle.plan_schema.specs.declared.change.Entry.{Entry}
use Rattle.plan_schema.specs.declared.refusal.Refusal.{Refusal}
use Rattle.plan_schema.specs.Contents.{Contents}
use Rattle.scenario_rules.specs.Journal.{IsLegal}
use Rattle.scenario_rules.specs.Refused.{refused}
use Rattle.shared_memo.specs.Pairs.{Keeps, at_end, stays, goes}
use Rattle.walk_rules.specs.declared.key.MemoKey.{MemoKey}
use Rattle.walk_rules.specs.Memo.{Pairs}
use Rattle.plan_core.specs.State.{State, history, point_of, begin_state, with_entry, stopped_sum}
use Rattle.plan_core.specs.Holds.{HoldsFor}
use Rattle.plan_core.specs.Reclaims.{IsReclaimed}
use Rattle.plan_core.specs.Changes.{refusal_of, with_one_dropped, is_reclaim_due, IsTidied, IsEntered, IsRefused}
use Rattle.plan_core.specs.Behind.{HasEntered, HasEnteredFirst, IsFirstRefused, IsNoCore, IsNotEntered}
use Rattle.plan_core.specs.declared.behind.BehindFault.{BehindFault}
use Rattle.plan_core.specs.declared.behind.BehindFault.TheVariants as faults

none_left : (says : MemoKey → Bool → Type 0) (old new : Pairs) → Keeps says old new → old ≡ [] → new ≡ []
none_left says _ _ at_end is = refl
none_left says _ _ (stays p old new said rest) is = absurd (let never : ⊥ = cc in never)
none_left says _ _ (goes p old new said rest) is = absurd (let never : ⊥ = cc in never)

module _ (base : Contents) (most : ℕ) (entries : List Entry) (mid new : State) (h : HasEntered base most [] entries mid) where
  reclaimed_again : IsReclaimed mid new → HasEntered base most [] entries new
  reclaimed_again r = record {
    base_is = ap (λ (s : State). s.base) r.same ∙ h.base_is;
    earlier_is = ap (λ (s : State). s.earlier) r.same ∙ h.earlier_is;
    entries_is = ap (λ (s : State). s.entries) r.same ∙ h.entries_is;
    pairs_is = none_left _ mid.pairs new.pairs r.kept h.pairs_is;
    most_is = ap (λ (s : State). s.most) r.same ∙ h.most_is;
    netted_is = ap (λ (s : State). s.tally.netted) r.same ∙ h.netted_is;
    reused_is = ap (λ (s : State). s.tally.reused) r.same ∙ h.reused_is;
  }

  skipped_again : new ≡ with_one_dropped mid → HasEntered base most [] entries new
  skipped_again e = record {
    base_is = ap (λ (s : State). s.base) e ∙ h.base_is;
    earlier_is = ap (λ (s : State). s.earlier) e ∙ h.earlier_is;
    entries_is = ap (λ (s : State). s.entries) e ∙ h.entries_is;
    pairs_is = ap (λ (s : State). s.pairs) e ∙ h.pairs_is;
    most_is = ap (λ (s : State). s.most) e ∙ h.most_is;
    netted_is = ap (λ (s : State). s.tally.netted) e ∙ ap (λ n. stopped_sum n 0) h.netted_is;
    reused_is = ap (λ (s : State). s.tally.reused) e ∙ ap (λ n. stopped_sum n 0) h.reused_is;
  }

  tidied_again : (due : Bool) → IsTidied due mid new → HasEntered base most [] entries new
  tidied_again true (inl r) = reclaimed_again r
  tidied_again true (inr e) = skipped_again e
  tidied_again false e = subst (HasEntered base most [] entries) (sym e) h

pub entered_again : (base : Contents) (most : ℕ) (done : List Entry) (old new : State) (entry : Entry) (number : ℕ) → HasEntered base most [] done old → IsEntered old new entry number
    → HasEntered base most [] (done ++ entry ∷ []) new
entered_again base most done old new entry number h k =
    tidied_again base most (done ++ entry ∷ []) (with_entry old entry) new
    (record {
      base_is = h.base_is;
      earlier_is = h.earlier_is;
      entries_is = ap (λ es. es ++ entry ∷ []) h.entries_is;
      pairs_is = h.pairs_is;
      most_is = h.most_is;
      netted_is = h.netted_is;
      reused_is = h.reused_is;
    })
    (is_reclaim_due (point_of (with_entry old entry))) k.entered

pub begun_again : (core : State) → core ≡ begin_state core.base core.most → HasEntered core.base core.most [] [] core
begun_again core is = record {
  base_is = refl;
  earlier_is = ap (λ (s : State). s.earlier) is;
  entries_is = ap (λ (s : State). s.entries) is;
  pairs_is = ap (λ (s : State). s.pairs) is;
  most_is = refl;
  netted_is = ap (λ (s : State). s.tally.netted) is;
  reused_is = ap (λ (s : State). s.tally.reused) is;
}

-- the history of a core that has entered the first entries
so_far : (base : Contents) (most : ℕ) (done : List Entry) (core : State) → HasEntered base most [] done core → history core ≡ done
so_far base most done core h = λ i. h.earlier_is i ++ h.entries_is i

pub refused_again : (base : Contents) (most : ℕ) (entries : List Entry) (at : ℕ) (core : State) (entry : Entry) (point : ℕ) (refusal : Refusal)
    → HasEntered base most [] (take at entries) core → length (take at entries) ≡ at → slice_get entries at ≡ Some entry
    → HoldsFor core → refusal_of core entry.user entry.change ≡ Some refusal → point ≡ point_of core
    → IsFirstRefused base entries point refusal
unfolding refusal_of
refused_again base most entries at core entry point refusal h long found holds first point_is =
    let history_is = so_far base most (take at entries) core h in
    let here : point ≡ at = point_is ∙ ap length history_is ∙ long in
    let legal : IsLegal base (take at entries) = subst (λ es. IsLegal base es) history_is (subst (λ c. IsLegal c (history core)) h.base_is holds.legal) in
    let refusal_is : refused base (take at entries) entry.user entry.change ≡ Some refusal =
    (λ i. refused (sym h.base_is i) (sym history_is i) entry.user entry.change) ∙ first in
    subst (λ n. IsFirstRefused base entries n refusal) (sym here) (record { before = legal; entry = entry; at = found; first = refusal_is })

pub sound_at : (entries : List Entry) (at : ℕ) (d : Entry) → at < length entries → list_all is_sound_entry entries ≡ true → is_sound_entry (get_or entries at d) ≡ true
sound_at entries at d low all = by_cases (is_sound_entry (get_or entries at d)) refl
  where
    by_cases : (b : Bool) → is_sound_entry (get_or entries at d) ≡ b → b ≡ true
    by_cases true is = refl
    by_cases false is = sym (list_all_at is_sound_entry entries at d low is) ∙ all

pub no_core : (base : Contents) (most : ℕ) (entries : List Entry) (core : State) (entry : Entry) (fault : BehindFault)
    → HasEnteredFirst base most entries core → slice_get entries (length core.entries) ≡ Some entry → IsNotEntered core entry fault → IsNoCore base entries fault
no_core base most entries core entry (faults.Refused point refusal) h found k =
    let long : length (take h.count entries) ≡ h.count = length-take-le h.count entries h.few in
    let at : slice_get entries h.count ≡ Some entry = subst (λ n. slice_get entries n ≡ Some entry) (ap length h.entered.entries_is ∙ long) found in
    refused_again base most entries h.count core entry point refusal h.entered long at k.0 k.1 k.2
no_core base most entries core entry faults.Memory h found k = tt
