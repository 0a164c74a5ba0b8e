-- What going through the rounds of a run comes to.
use Rattle.std.specs.Prelude.{◌≡◌, ◌⊎◌, ℕ, Bool, true, false, List, [], ◌∷◌, ◌++◌, Option, Some, Result, Ok, Err}
use Rattle.std.specs.List.{list_any}
use Rattle.plan_schema.specs.Outside.{Rose}
use Rattle.byte_lines.specs.declared.rounds.Desk.{Desk}
use Rattle.byte_lines.specs.declared.rounds.Served.{Served}
use Rattle.byte_lines.specs.declared.rounds.Served.TheVariants as ends
use Rattle.byte_lines.specs.Desks.{all_desks}
use Rattle.plan_audit.specs.declared.session.SessionFault.{SessionFault}
use Rattle.plan_audit.specs.declared.session.SessionFault.TheVariants as session
use Rattle.plan_audit.specs.declared.rounds.RunFault.{RunFault}
use Rattle.plan_audit.specs.declared.rounds.RunFault.TheVariants as run
use Rattle.plan_audit.specs.Verdicts.{Pair, Fault, Breaks, IsLong}
use Rattle.plan_audit.specs.Cases.{StaysSource}

-- the first two are what is left of a desk's sources
module _ {S K : Type 0} (left : S → Option (List ℕ)) (written : K → Option (List ℕ)) where
  -- desks whose sources tell what the sessions were sent and what they wrote
  abbrev pub AreTold : List (Desk S K) → List Pair → Type 0
  AreTold [] [] = Unit {0}
  AreTold (desk ∷ desks) (pair ∷ pairs) = (left desk.source ≡ Some pair.input) × (written desk.sink ≡ Some pair.output) × AreTold desks pairs
  AreTold _ _ = ⊥

  abbrev pub AreRoundsTold : List (List (Desk S K)) → List (List Pair) → Type 0
  AreRoundsTold [] [] = Unit {0}
  AreRoundsTold (desks ∷ rounds) (pairs ∷ more) = AreTold desks pairs × AreRoundsTold rounds more
  AreRoundsTold _ _ = ⊥

-- one of a desk's sources is told to have failed
abbrev pub is_told_unread : Option Served → Bool
is_told_unread (Some ends.ReadFault) = true
is_told_unread (Some ends.WriteFault) = true
is_told_unread served = false

abbrev pub is_unread : {S K : Type 0} → Desk S K → Bool
is_unread desk = is_told_unread desk.served

-- a source of one of these desks is told to have failed
abbrev pub has_unread : {S K : Type 0} → List (List (Desk S K)) → Bool
has_unread rounds = list_any is_unread (all_desks rounds)

-- a desk's meanings: the count of faults and the label of its source, and those of its sink
module _ {S K : Type 0} (reads : S → ℕ) (source_label : S → List ℕ) (writes : K → ℕ) (sink_label : K → List ℕ) where
  -- a desk was gone through: its sources keep their labels, and one is told to have failed where it was told so before, or where its
  -- count rose
  pub record IsGone (old new : Desk S K) : Type 0 where
    pub input : StaysSource reads source_label old.source new.source
    pub output : StaysSource writes sink_label old.sink new.sink
    pub read : new.served ≡ Some ends.ReadFault → (old.served ≡ Some ends.ReadFault) ⊎ Rose (reads old.source) (reads new.source)
    pub read_output : new.served ≡ Some ends.WriteFault → (old.served ≡ Some ends.WriteFault) ⊎ Rose (writes old.sink) (writes new.sink)

  abbrev pub AreGone : List (Desk S K) → List (Desk S K) → Type 0
  AreGone [] [] = Unit {0}
  AreGone (old ∷ olds) (new ∷ news) = IsGone old new × AreGone olds news
  AreGone _ _ = ⊥

  abbrev pub AreRoundsGone : List (List (Desk S K)) → List (List (Desk S K)) → Type 0
  AreRoundsGone [] [] = Unit {0}
  AreRoundsGone (old ∷ olds) (new ∷ news) = AreGone old new × AreRoundsGone olds news
  AreRoundsGone _ _ = ⊥

abbrev pub run_fault : ℕ → SessionFault → RunFault
run_fault number session.Input = run.Read
run_fault number session.Output = run.Read
run_fault number session.Limit = run.Limit number
run_fault number session.Memory = run.Memory
run_fault number (session.Breaks line rule) = run.Breaks number line rule

abbrev pub served_with : Option Served → SessionFault → Option Served
served_with served session.Input = Some ends.ReadFault
served_with served session.Output = Some ends.WriteFault
served_with served session.Limit = Some ends.Limit
served_with served session.Memory = served
served_with served (session.Breaks line rule) = served

-- this is the fault that was found; no claim is made where a source failed or there was no memory
abbrev pub IsRunFault : Result (List ℕ) Fault → RunFault → Type 0
IsRunFault seen (run.Limit number) = seen ≡ Err (IsLong number)
IsRunFault seen (run.Breaks number line rule) = seen ≡ Err (Breaks number (record { line = line; rule = rule }))
IsRunFault seen fault = Unit {0}

-- nothing is wrong, and the points were put behind these; or this fault was found
abbrev pub ArePoints : Result (List ℕ) Fault → List ℕ → List ℕ → Result (Unit {0}) RunFault → Type 0
ArePoints seen before after (Ok done) = (points : List ℕ) × (seen ≡ Ok points) × (after ≡ before ++ points)
ArePoints seen before after (Err fault) = IsRunFault seen fault
