-- The core after a step: its history is as before or has one more entry.
use Rattle.std.proofs.Common.{◌≡◌, List, [], ◌∷◌, ◌++◌, refl, sym, ◌∙◌, ap, subst, append_assoc, inl, inr, Bool, true, false}
use Rattle.std.specs.Prelude.{◌⊎◌, Option, Some, None}
use Rattle.plan_schema.specs.declared.change.Entry.{Entry}
use Rattle.version_rules.specs.Meaning.{Meaning, meaning_after}
use Rattle.walk_rules.specs.Cells.{Cells, Stands}
use Rattle.walk_rules.specs.Rights.{Grows}
use Rattle.plan_core.specs.State.{State, history, with_entry, meaning_of}
use Rattle.plan_core.specs.Changes.{IsTidied}
use Rattle.plan_core.proofs.Histories.{grows_then}
use Rattle.core_runs.specs.declared.step.CoreStep.{CoreStep}
use Rattle.core_runs.specs.declared.step.CoreStep.TheVariants as steps
use Rattle.core_runs.specs.declared.step.CoreReply.{CoreReply}
use Rattle.core_runs.specs.declared.step.CoreReply.TheVariants as replies
use Rattle.core_runs.specs.declared.in_work.InWork.{InWork}
use Rattle.core_runs.specs.Machine.{Machine, walk_at}
use Rattle.core_runs.specs.Replies.{IsChangeReply, IsRoundReply, IsReclaimReply}
use Rattle.core_runs.specs.Runs.{IsStep, IsRoundStep}

-- the records that the core began with stay, and its history does, or has one more entry
pub record IsLater (old new : State) : Type 0 where
  pub base : new.base ≡ old.base
  pub entered : List Entry
  pub one_at_most : (entered ≡ []) ⊎ ((entry : Entry) × (entered ≡ entry ∷ []))
  pub history_is : history new ≡ history old ++ entered

nothing_behind : (xs : List Entry) → xs ≡ xs ++ []
nothing_behind [] = refl
nothing_behind (x ∷ xs) = ap (λ ys. x ∷ ys) (nothing_behind xs)

-- a core of the same records and history
pub same_later : (old new : State) → new.base ≡ old.base → history new ≡ history old → IsLater old new
same_later old new base same = record { base = base; entered = []; one_at_most = inl refl; history_is = same ∙ nothing_behind (history old) }

pub is_later : (old new : State) → new ≡ old → IsLater old new
is_later old new same = same_later old new (ap (λ (s : State). s.base) same) (ap history same)

tidied_base : (due : Bool) (entered new : State) → IsTidied due entered new → new.base ≡ entered.base
tidied_base false entered new same = ap (λ (s : State). s.base) same
tidied_base true entered new tidied = elim tidied [ inl done ↦ ap (λ (s : State). s.base) done.same | inr skipped ↦ ap (λ (s : State). s.base) skipped ]

tidied_history : (due : Bool) (entered new : State) → IsTidied due entered new → history new ≡ history entered
tidied_history false entered new same = ap history same
tidied_history true entered new tidied = elim tidied [ inl done ↦ ap history done.same | inr skipped ↦ ap history skipped ]

entered_later : (due : Bool) (old new : State) (entry : Entry) → IsTidied due (with_entry old entry) new → IsLater old new
entered_later due old new entry tidied = record {
  base = tidied_base due (with_entry old entry) new tidied;
  entered = entry ∷ [];
  one_at_most = inr (entry, refl);
  history_is = tidied_history due (with_entry old entry) new tidied ∙ sym (append_assoc old.earlier old.entries (entry ∷ []));
}

change_later : (old new : State) (entry : Entry) (reply : CoreReply) → IsChangeReply old new entry reply → IsLater old new
change_later old new entry (replies.Point number) h = entered_later _ old new entry h.entered
change_later old new entry (replies.Refused point refusal) h = is_later old new h.same
change_later old new entry replies.Memory h = is_later old new h.same
change_later old new entry _ h = absurd h

round_later : (old new : State) (work : InWork) (reply : CoreReply) (left : Option InWork) → IsRoundReply old new work reply left → IsLater old new
round_later old new work (replies.Round round) left h = same_later old new (ap (λ (s : State). s.base) h.made.same) (ap history h.made.same)
round_later old new work replies.Memory left h = same_later old new (ap (λ (s : State). s.base) h.short) (ap history h.short)
round_later old new work _ left h = absurd h

reclaim_later : (old new : State) (reply : CoreReply) → IsReclaimReply old new reply → IsLater old new
reclaim_later old new (replies.Point point) h = same_later old new (ap (λ (s : State). s.base) h.1.same) (ap history h.1.same)
reclaim_later old new replies.Memory h = is_later old new h
reclaim_later old new _ h = absurd h

pub step_later : (old : Machine) (step : CoreStep) (reply : CoreReply) (new : Machine) → IsStep old step reply new → IsLater old.core new.core
step_later old (steps.Change entry) reply new h = change_later old.core new.core entry reply h.0
step_later old (steps.Ask user scenario wanted) reply new h = is_later old.core new.core h.1
step_later old (steps.Solve number) reply new h = is_later old.core new.core h.1
step_later old (steps.Round number) reply new h = by_walk (walk_at old.walks number) h
  where
    by_walk : (o : Option InWork) → IsRoundStep number o old new reply → IsLater old.core new.core
    by_walk None idle = is_later old.core new.core (ap (λ (m : Machine). m.core) idle.1)
    by_walk (Some work) round = round_later old.core new.core work reply round.left round.replied
step_later old (steps.Tree user) reply new h = is_later old.core new.core (ap (λ (m : Machine). m.core) h.1)
step_later old steps.Point reply new h = is_later old.core new.core (ap (λ (m : Machine). m.core) h.1)
step_later old steps.Reclaim reply new h = reclaim_later old.core new.core reply h.0

-- what ids meant they mean then --------------------------------------------------------------------------------------------------------

meanings_grow : (old new : State) → IsLater old new → Grows (meaning_of old) (meaning_of new)
meanings_grow old new later = subst (λ (m : Meaning). Grows (meaning_of old) m) (sym meaning_is) (by_entered later.entered later.one_at_most)
  where
    meaning_is : meaning_of new ≡ meaning_after old.base (history old ++ later.entered)
    meaning_is = λ i. meaning_after (later.base i) (later.history_is i)

    by_entered : (entered : List Entry) → (entered ≡ []) ⊎ ((entry : Entry) × (entered ≡ entry ∷ [])) → Grows (meaning_of old) (meaning_after old.base (history old ++ entered))
    by_entered entered one = elim one [
      | inl none ↦ subst (λ h. Grows (meaning_of old) (meaning_after old.base h)) (nothing_behind (history old) ∙ sym (ap (λ es. history old ++ es) none)) (λ id rows is. is)
      | inr some ↦ subst (λ es. Grows (meaning_of old) (meaning_after old.base (history old ++ es))) (sym some.1) (grows_then old.base (history old) some.0)
    ]

stand_later : (m later : Meaning) → Grows m later → (cells : Cells) → Stands m cells → Stands later cells
stand_later m later grows [] h = tt
stand_later m later grows (cell ∷ cells) h = (grows cell.0 cell.1 h.0, stand_later m later grows cells h.1)

-- cells that stood for the core stand then
pub cells_later : (old new : State) → IsLater old new → (cells : Cells) → Stands (meaning_of old) cells → Stands (meaning_of new) cells
cells_later old new later cells stands = stand_later (meaning_of old) (meaning_of new) (meanings_grow old new later) cells stands
