-- The worlds of legal histories are whole.
use Rattle.std.proofs.Common.{◌≡◌, ℕ, zero, suc, List, [], ◌∷◌, ◌++◌, refl, sym, ◌∙◌, subst, Bool, true, false, cond, ◌&&◌, append_assoc, append-nil, arith}
use Rattle.std.specs.Prelude.{Option, Some, None, IfSome, slice_get, take, nat_le}
use Rattle.std.proofs.lemmas.List.Sums.{fold-append}
use Rattle.plan_schema.specs.declared.name.Name.{Name}
use Rattle.plan_schema.specs.declared.change.Entry.{Entry}
use Rattle.plan_schema.specs.declared.refusal.Refusal.{Refusal}
use Rattle.plan_schema.specs.Name.{is_name}
use Rattle.plan_schema.specs.Contents.{Contents}
use Rattle.plan_schema.specs.Sound.{is_sound_change, is_sound_entry}
use Rattle.plan_schema.specs.Refusals.{first_of}
use Rattle.scenario_rules.specs.World.{Scenario, is_root, root_with, begin_with}
use Rattle.scenario_rules.specs.Steps.{step, world_after}
use Rattle.scenario_rules.specs.Refused.{scenario_refusal, full_journal, refused}
use Rattle.scenario_rules.specs.Whole.{AreWholeContents, AreWithinLimits, IsWholeScenario, HasParent, IsWhole}
use Rattle.scenario_rules.specs.Laws.{RefusedIsAbsent, LegalIsWhole}
use Rattle.scenario_rules.proofs.Wholeness.{same_scenario}
use Rattle.scenario_rules.proofs.StepLaws.{clash, step_keeps_whole}

pub refused_is_absent : RefusedIsAbsent
refused_is_absent base history k entry refusal legal h e =
    let accepted : refused base (take k history) entry.user entry.change ≡ None =
    subst (λ o. IfSome o (λ (x : Entry). refused base (take k history) x.user x.change ≡ None)) e (legal.accepted k) in
    no_such (sym h ∙ accepted)
  where
    no_such : Some refusal ≡ None → ⊥
    no_such wrong = cc

-- the root alone
pub begin_whole : (base : Contents) → AreWholeContents base → AreWithinLimits base → IsWhole (begin_with base)
begin_whole base whole limits = record {
  ordered = refl;
  few = omega arith;
  rooted = (base, refl);
  each = λ s x e. each_is s x (is_root s) e;
  parents = λ s x e other. no_other s x (is_root s) e other;
}
  where
    it : IsWholeScenario (root_with base)
    it = record { base = whole; own = record { ordered = refl; sound = refl }; limits = limits }

    each_is : (s : Name) (x : Scenario) (t : Bool) → cond t (Some (root_with base)) None ≡ Some x → IsWholeScenario x
    each_is s x true e = subst IsWholeScenario (same_scenario (root_with base) x e) it
    each_is s x false e = absurd (no_such e)
      where
        no_such : None ≡ Some x → ⊥
        no_such wrong = cc

    no_other : (s : Name) (x : Scenario) (t : Bool) → cond t (Some (root_with base)) None ≡ Some x → t ≡ false → HasParent (begin_with base) s x
    no_other s x true e other = clash other
    no_other s x false e other = absurd (no_such e)
      where
        no_such : None ≡ Some x → ⊥
        no_such wrong = cc

-- a sound entry that isn't refused after those before it
pub record IsNext (base : Contents) (before : List Entry) (entry : Entry) : Type 0 where
  pub sound : is_sound_entry entry ≡ true
  pub accepted : refused base before entry.user entry.change ≡ None

last_of_six : (a b c d e f : Bool) → (a && b && c && d && e && f) ≡ true → f ≡ true
last_of_six true true true true true f h = h
last_of_six false b c d e f h = cc
last_of_six true false c d e f h = cc
last_of_six true true false d e f h = cc
last_of_six true true true false e f h = cc
last_of_six true true true true false f h = cc

sound_change : (entry : Entry) → is_sound_entry entry ≡ true → is_sound_change entry.change ≡ true
sound_change entry h =
    last_of_six (nat_le 1 entry.session) (nat_le entry.session 16) (nat_le 1 entry.line) (nat_le entry.line 1_000_000) (is_name entry.user) (is_sound_change entry.change) h

pub first_none : (a b : Option Refusal) → first_of (a ∷ b ∷ []) ≡ None → a ≡ None
first_none None b h = refl
first_none (Some r) b h = cc

pub next_whole : (base : Contents) (before : List Entry) (entry : Entry) → IsWhole (world_after base before) → IsNext base before entry → IsWhole (world_after base (before ++ entry ∷ []))
next_whole base before entry whole next =
    subst IsWhole (sym (fold-append (λ w (e : Entry). step w e.user e.change) (begin_with base) before (entry ∷ [])))
    (step_keeps_whole (world_after base before) entry.user entry.change whole (sound_change entry next.sound)
    (first_none (scenario_refusal (world_after base before) entry.user entry.change) (full_journal before entry.change) next.accepted))

-- from a history on, with the entries that follow it
rest_whole : (base : Contents) (before rest : List Entry) → IsWhole (world_after base before) → ((k : ℕ) → IfSome (slice_get rest k) (IsNext base (before ++ take k rest))) → IsWhole (world_after base (before ++ rest))
rest_whole base before [] whole next = subst (λ h. IsWhole (world_after base h)) (sym (append-nil before)) whole
rest_whole base before (entry ∷ rest) whole next =
    let first : IsNext base before entry = subst (λ h. IsNext base h entry) (append-nil before) (next zero) in
    subst (λ h. IsWhole (world_after base h)) (append_assoc before (entry ∷ []) rest)
    (rest_whole base (before ++ entry ∷ []) rest (next_whole base before entry whole first)
    (λ k. subst (λ h. IfSome (slice_get rest k) (IsNext base h)) (sym (append_assoc before (entry ∷ []) (take k rest))) (next (suc k))))

pub legal_is_whole : LegalIsWhole
legal_is_whole base history whole limits legal = rest_whole base [] history (begin_whole base whole limits) (λ k. both (slice_get history k) (take k history) (legal.sound k) (legal.accepted k))
  where
    both : (o : Option Entry) (before : List Entry) → IfSome o (λ entry. is_sound_entry entry ≡ true) → IfSome o (λ entry. refused base before entry.user entry.change ≡ None) → IfSome o (IsNext base before)
    both None before s a = tt
    both (Some entry) before s a = record { sound = s; accepted = a }
