-- Runs one behind another, and what holds of whole runs.
use Rattle.std.proofs.Common.{◌≡◌, ℕ, ◌+◌, ◌<◌, ◌≤◌, get_or, take, List, [], ◌∷◌, ◌++◌, length, suc, refl, sym, ◌∙◌, ap, subst, append_assoc, append-nil}
use Rattle.std.proofs.lemmas.List.{take_more}
use Rattle.plan_core.specs.State.{State, history}
use Rattle.core_runs.specs.declared.step.CoreStep.{CoreStep}
use Rattle.core_runs.specs.declared.step.CoreReply.{CoreReply}
use Rattle.core_runs.specs.Machine.{Machine, Walks, unasked}
use Rattle.core_runs.specs.Runs.{IsStep, IsRun, HasRunFirst}
use Rattle.core_runs.specs.Laws.{EachHasReply, RunsGoOn, IsLonger, HistoriesAreKept}
use Rattle.core_runs.proofs.Later.{step_later}

pub runs_go_on : RunsGoOn
runs_go_on old between new [] later [] later_replied first second = subst (λ (m : Machine). IsRun m later later_replied new) first second
runs_go_on old between new [] later (reply ∷ replied) later_replied first second = absurd first
runs_go_on old between new (step ∷ asked) later [] later_replied first second = absurd first
runs_go_on old between new (step ∷ asked) later (reply ∷ replied) later_replied first second =
    (first.0, first.1, runs_go_on first.0 between new asked later replied later_replied first.2 second)

-- a run with one more step
pub run_then : (old between new : Machine) (asked : List CoreStep) (replied : List CoreReply) (step : CoreStep) (reply : CoreReply) → IsRun old asked replied between → IsStep between step reply new
    → IsRun old (asked ++ step ∷ []) (replied ++ reply ∷ []) new
run_then old between new asked replied step reply run last = runs_go_on old between new asked (step ∷ []) replied (reply ∷ []) run (new, last, refl)

-- the first steps of a list, and the next of them
pub run_more : (old between new : Machine) (asked : List CoreStep) (replied : List CoreReply) (at : ℕ) (step : CoreStep) (reply : CoreReply) → at < length asked → step ≡ get_or asked at step
    → IsRun old (take at asked) replied between → IsStep between step reply new → IsRun old (take (at + 1) asked) (replied ++ reply ∷ []) new
run_more old between new asked replied at step reply within is run last =
    let more : take (at + 1) asked ≡ take at asked ++ step ∷ [] = take_more asked at step within ∙ ap (λ s. take at asked ++ s ∷ []) (sym is) in
    subst (λ steps. IsRun old steps (replied ++ reply ∷ []) new) (sym more) (run_then old between new (take at asked) replied step reply run last)

-- the first steps of a list are taken, so many
pub ran_first : (old new : State) (walks : Walks) (items asked : List CoreStep) (replied : List CoreReply) (count : ℕ) → items ≡ asked → count ≤ length items
    → IsRun (unasked old) (take count items) replied (record { core = new; walks = walks }) → HasRunFirst old asked new
ran_first old new walks items asked replied count same few run =
    subst (λ steps. HasRunFirst old steps new) same (record { count = count; few = few; replied = replied; run = record { walks = walks; run = run } })

-- each step has one reply
as_many : (old new : Machine) (asked : List CoreStep) (replied : List CoreReply) → IsRun old asked replied new → length replied ≡ length asked
as_many old new [] [] run = refl
as_many old new [] (reply ∷ replied) run = absurd run
as_many old new (step ∷ asked) [] run = absurd run
as_many old new (step ∷ asked) (reply ∷ replied) run = ap suc (as_many run.0 new asked replied run.2)

pub each_has_reply : EachHasReply
each_has_reply old new asked replied run = as_many (unasked old) (record { core = new; walks = run.walks }) asked replied run.run

-- histories
longer : (old new : Machine) (asked : List CoreStep) (replied : List CoreReply) → IsRun old asked replied new → IsLonger old.core new.core
longer old new [] [] run = record { entered = []; history_is = ap (λ (m : Machine). history m.core) run ∙ sym (append-nil (history old.core)) }
longer old new [] (reply ∷ replied) run = absurd run
longer old new (step ∷ asked) [] run = absurd run
longer old new (step ∷ asked) (reply ∷ replied) run =
    let first = step_later old step reply run.0 run.1 in
    let later = longer run.0 new asked replied run.2 in
    record {
      entered = first.entered ++ later.entered;
      history_is = later.history_is ∙ ap (λ h. h ++ later.entered) first.history_is ∙ append_assoc (history old.core) first.entered later.entered;
    }

pub histories_are_kept : HistoriesAreKept
histories_are_kept old new asked replied run = longer (unasked old) (record { core = new; walks = run.walks }) asked replied run.run
