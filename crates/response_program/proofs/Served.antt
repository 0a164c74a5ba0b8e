-- What desks are after their sessions.
use Rattle.std.proofs.Common.{◌≡◌, ◌≢◌, ℕ, List, [], ◌∷◌, Some, sym, subst, ◌∙◌}
use Rattle.std.specs.List.{AllByRecursion}
use Rattle.plan_schema.specs.Outside.{Rose}
use Rattle.response_program.specs.Names.{Pair}
use Rattle.response_program.specs.Views.{View}
use Rattle.response_program.specs.Outcomes.{Outcome, Done, Made, Tried, Legal, OfJournal, NotLegal, NoMemory, Refused, NotOpened, NotRead, NotWritten, TooLong}
use Rattle.response_program.specs.Desks.{DeskView}
use Rattle.response_program.specs.InRounds.{AreNamed}
use Rattle.response_program.proofs.Opened.{AreFresh}

pub fresh_named : (old : View) (pairs : List Pair) (ds : List DeskView) → AreFresh old pairs ds → AreNamed pairs ds
fresh_named old [] [] h = tt
fresh_named old (pair ∷ pairs) (desk ∷ ds) h = (h.0.pair_is, fresh_named old pairs ds h.1)
fresh_named old [] (desk ∷ ds) h = absurd h
fresh_named old (pair ∷ pairs) [] h = absurd h

-- what holds of pairs holds of their desks'
pub all_named : (P : Pair → Type 0) (pairs : List Pair) (ds : List DeskView) → AreNamed pairs ds → AllByRecursion P pairs → AllByRecursion (λ (desk : DeskView). P desk.pair) ds
all_named P [] [] n h = tt
all_named P (pair ∷ pairs) (desk ∷ ds) n h = (subst P (sym n.0) h.0, all_named P pairs ds n.1 h.1)
all_named P [] (desk ∷ ds) n h = absurd n
all_named P (pair ∷ pairs) [] n h = absurd n

-- why desks stopped ----------------------------------------------------------------------------------------------------------

-- a desk among these has the fault that an outcome tells
pub data IsFaulty : List DeskView → Outcome → Type 0 where
  read : (desk : DeskView) (ds : List DeskView) → Rose 0 desk.reads → IsFaulty (desk ∷ ds) (NotRead desk.pair.input)
  written : (desk : DeskView) (ds : List DeskView) → Rose 0 desk.writes → IsFaulty (desk ∷ ds) (NotWritten desk.pair.output)
  long : (ds : List DeskView) (session : ℕ) → IsFaulty ds (TooLong session)
  memory : (ds : List DeskView) → IsFaulty ds NoMemory
  later : (desk : DeskView) (ds : List DeskView) (outcome : Outcome) → IsFaulty ds outcome → IsFaulty (desk ∷ ds) outcome

pub rose_fresh : {before now : ℕ} → before ≡ 0 → Rose before now → Rose 0 now
rose_fresh {before} {now} none rose = subst (λ n. Rose n now) none rose

pub some_is : {A : Type 0} {a b : A} → Some a ≡ Some b → a ≡ b
some_is is = cc

-- it is no outcome of a base, of opening, or of a run that is done
pub faulty_read : (base : List ℕ) (ds : List DeskView) (outcome : Outcome) → IsFaulty ds outcome → AllByRecursion (λ (desk : DeskView). desk.pair.input ≢ base) ds → (name : List ℕ) → outcome ≡ NotRead name → name ≢ base
faulty_read base _ _ (read desk ds rose) apart name is same = let here : desk.pair.input ≡ name = cc in apart.0 (here ∙ same)
faulty_read base _ _ (written desk ds rose) apart name is same = cc
faulty_read base _ _ (long ds session) apart name is same = cc
faulty_read base _ _ (memory ds) apart name is same = cc
faulty_read base _ _ (later desk ds outcome h) apart name is same = faulty_read base ds outcome h apart.1 name is same

unfoldable pub IsOfDesk : Outcome → Type 0
IsOfDesk (Done totals) = ⊥
IsOfDesk (Made parts) = ⊥
IsOfDesk (Tried trial) = ⊥
IsOfDesk (Legal entries) = ⊥
IsOfDesk NoMemory = Unit {0}
IsOfDesk (Refused fault) = ⊥
IsOfDesk (OfJournal bad) = ⊥
IsOfDesk (NotLegal breach) = ⊥
IsOfDesk (NotOpened name) = ⊥
IsOfDesk (NotRead name) = Unit {0}
IsOfDesk (NotWritten name) = Unit {0}
IsOfDesk (TooLong session) = Unit {0}

pub faulty_desk : (ds : List DeskView) (outcome : Outcome) → IsFaulty ds outcome → IsOfDesk outcome
unfolding IsOfDesk
faulty_desk _ _ (read desk ds rose) = tt
faulty_desk _ _ (written desk ds rose) = tt
faulty_desk _ _ (long ds session) = tt
faulty_desk _ _ (memory ds) = tt
faulty_desk _ _ (later desk ds outcome h) = faulty_desk ds outcome h
