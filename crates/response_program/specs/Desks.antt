-- What desks come to: their files are opened, their sessions are served one after the other, and their files are given back.
use Rattle.std.specs.Prelude.{◌≡◌, ◌≤◌, ℕ, ◌+◌, true, List, [], ◌∷◌, ◌++◌, Option, Some, None, IsSome}
use Rattle.plan_schema.specs.declared.change.Entry.{Entry}
use Rattle.plan_schema.specs.Contents.{Contents}
use Rattle.plan_schema.specs.Outside.{Rose, Stays, StaysBut, IsKeptOrEmpty, Counted}
use Rattle.byte_lines.specs.declared.rounds.Served.{Served}
use Rattle.byte_lines.specs.declared.rounds.Served.TheVariants as ends
use Rattle.sessions.specs.Serving.{Setting, Serves}
use Rattle.response_program.specs.Names.{Pair}
use Rattle.response_program.specs.Views.{View, NoneFell}
use Rattle.response_program.specs.Outcomes.{Outcome, NotOpened, NoMemory, HasCause, stop_of}

-- a desk: its names; what is left of its input and how many reads failed; what its output took and how many writes failed
pub record DeskView : Type 0 where
  pub pair : Pair
  pub left : Option (List ℕ)
  pub reads : ℕ
  pub taken : Option (List ℕ)
  pub writes : ℕ

-- opening ------------------------------------------------------------------------------------------------------------------

-- at most an output was made
pub record IsMade (old new : View) (pair : Pair) : Type 0 where
  pub none_fell : NoneFell old new
  pub others : StaysBut pair.output old.held new.held
  pub output : IsKeptOrEmpty (old.held pair.output) (new.held pair.output)

-- the files of a pair were opened
pub record IsOpened (old : View) (pair : Pair) (desk : DeskView) (new : View) : Type 0 where
  pub made : IsMade old new pair
  pub pair_is : desk.pair ≡ pair
  pub input : desk.left ≡ old.held pair.input
  pub no_reads : desk.reads ≡ 0
  pub output : IsSome (old.held pair.output) → desk.taken ≡ Some []
  pub no_writes : desk.writes ≡ 0

-- why files couldn't be opened
abbrev pub IsOpening : Outcome → Type 0
IsOpening (NotOpened name) = Unit {0}
IsOpening NoMemory = Unit {0}
IsOpening outcome = ⊥

-- they couldn't be
pub record IsUnopened (old : View) (pair : Pair) (outcome : Outcome) (new : View) : Type 0 where
  pub made : IsMade old new pair
  pub opening : IsOpening outcome
  pub cause : HasCause old new outcome

-- pairs were opened one after the other
pub data Opens : View → List Pair → List DeskView → View → Type 0 where
  none : (shelf : View) → Opens shelf [] [] shelf
  more : (old between new : View) (pair : Pair) (desk : DeskView) (pairs : List Pair) (desks : List DeskView)
      → IsOpened old pair desk between → Opens between pairs desks new → Opens old (pair ∷ pairs) (desk ∷ desks) new

-- the first pairs were opened, and the next one couldn't be, or there was no memory for more, or no turn was left
pub data StopsOpening : View → List Pair → List DeskView → Outcome → View → Type 0 where
  no_room : (shelf : View) (pairs : List Pair) → StopsOpening shelf pairs [] NoMemory shelf
  here : (old new : View) (pair : Pair) (pairs : List Pair) (outcome : Outcome) → IsUnopened old pair outcome new → StopsOpening old (pair ∷ pairs) [] outcome new
  later : (old between new : View) (pair : Pair) (desk : DeskView) (pairs : List Pair) (desks : List DeskView) (outcome : Outcome)
      → IsOpened old pair desk between → StopsOpening between pairs desks outcome new → StopsOpening old (pair ∷ pairs) (desk ∷ desks) outcome new

-- serving ------------------------------------------------------------------------------------------------------------------

-- a session of a run: it may change what it finds
abbrev pub session_of : Contents → ℕ → List Entry → Setting
session_of contents session earlier = record { may_change = true; base = contents; earlier = earlier; session = session }

-- a session was served at a desk, after earlier entries, and left these
pub record HasServed (contents : Contents) (session : ℕ) (earlier entries : List Entry) (old new : DeskView) (served : Served) : Type 0 where
  pub pair_is : new.pair ≡ old.pair
  pub reads : old.reads ≤ new.reads
  pub writes : old.writes ≤ new.writes
  pub read : served ≡ ends.ReadFault → Rose old.reads new.reads
  pub written : served ≡ ends.WriteFault → Rose old.writes new.writes
  pub serves : (input : List ℕ) → old.left ≡ Some input → Serves (session_of contents session earlier) entries input old.taken new.taken served

-- the same, with why it didn't end
pub record IsOneServed (contents : Contents) (session : ℕ) (earlier entries : List Entry) (old new : DeskView) (stop : Option Outcome) : Type 0 where
  pub served : Served
  pub has : HasServed contents session earlier entries old new served
  pub stop_is : stop ≡ stop_of old.pair session served

-- sessions were served at desks one after the other, the first with this number, up to the first that didn't end: that one's outcome
-- is told
pub data AreServed (contents : Contents) : ℕ → List Entry → List DeskView → List DeskView → List Entry → Option Outcome → Type 0 where
  none : (session : ℕ) (entries : List Entry) → AreServed contents session entries [] [] entries None
  ended : (session count : ℕ) (earlier between entries : List Entry) (old new : DeskView) (olds news : List DeskView) (stop : Option Outcome)
      → HasServed contents session earlier between old new (ends.Ended count) → AreServed contents (session + 1) between olds news entries stop
      → AreServed contents session earlier (old ∷ olds) (new ∷ news) entries stop
  stopped : (session : ℕ) (earlier entries : List Entry) (old new : DeskView) (olds : List DeskView) (served : Served) (outcome : Outcome)
      → HasServed contents session earlier entries old new served → stop_of old.pair session served ≡ Some outcome
      → AreServed contents session earlier (old ∷ olds) (new ∷ olds) entries (Some outcome)

-- closing ------------------------------------------------------------------------------------------------------------------

-- the files of a desk were given back
pub record IsGivenBack (old : View) (desk : DeskView) (new : View) : Type 0 where
  pub output : new.held desk.pair.output ≡ desk.taken
  pub others : StaysBut desk.pair.output old.held new.held
  pub reads : Counted desk.pair.input desk.reads old.reads new.reads
  pub writes : Counted desk.pair.output desk.writes old.writes new.writes
  pub opens : Stays old.opens new.opens

-- those of desks were, in order
pub data AreGivenBack : View → List DeskView → View → Type 0 where
  none : (shelf : View) → AreGivenBack shelf [] shelf
  more : (old between new : View) (desk : DeskView) (desks : List DeskView) → IsGivenBack old desk between → AreGivenBack between desks new
      → AreGivenBack old (desk ∷ desks) new

-- all of it ----------------------------------------------------------------------------------------------------------------

-- desks were served and given back, and those that weren't served were given back as they were
pub record AreDone (contents : Contents) (session : ℕ) (earlier entries : List Entry) (desks : List DeskView) (stop : Option Outcome) (old new : View) : Type 0 where
  pub left : List DeskView
  pub served : AreServed contents session earlier desks left entries stop
  pub closed : AreGivenBack old left new

-- all pairs were opened, served, and given back
pub record HasServedAll (contents : Contents) (old new : View) (pairs : List Pair) (entries : List Entry) (stop : Option Outcome) : Type 0 where
  pub opened : View
  pub desks : List DeskView
  pub opens : Opens old pairs desks opened
  pub done : AreDone contents 1 [] entries desks stop opened new

-- No session's outcome is told: a pair couldn't be opened, or there was no memory behind the opened ones, or no turn was left. What was
-- opened was given back as it was, or let go: some desks at the front.
pub record HasServedNone (old new : View) (pairs : List Pair) (outcome : Outcome) : Type 0 where
  pub opened : View
  pub gone : List DeskView
  pub desks : List DeskView
  pub stops : StopsOpening old pairs (gone ++ desks) outcome opened
  pub closed : AreGivenBack opened desks new
