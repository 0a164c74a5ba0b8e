-- Desks that are put into rounds, served side by side there, and taken back.
use Rattle.std.specs.Prelude.{◌≡◌, ◌≢◌, ℕ, ◌+◌, true, false, Bool, List, [], ◌∷◌, ◌++◌, length, take, drop, map, Option, Some, None, IsSome}
use Rattle.std.specs.List.{AllByRecursion}
use Rattle.plan_schema.specs.declared.change.Entry.{Entry}
use Rattle.plan_schema.specs.Contents.{Contents}
use Rattle.plan_schema.specs.Outside.{Rose}
use Rattle.byte_lines.specs.declared.rounds.Desk.{Desk}
use Rattle.byte_lines.specs.declared.rounds.Served.{Served}
use Rattle.byte_lines.specs.declared.rounds.Served.TheVariants as ends
use Rattle.byte_lines.specs.Desks.{all_desks, with_desk}
use Rattle.scenario_rules.specs.Journal.{IsLegal}
use Rattle.session_rules.specs.Runs.{IsRun}
use Rattle.session_rules.specs.Runs as runs
use Rattle.request_loop.specs.Serving.{is_past_limit}
use Rattle.turn_table.specs.Passes.{TurnId}
use Rattle.plan_core.specs.State.{State}
use Rattle.plan_book.specs.Books.{story_of}
use Rattle.plan_office.specs.Turns.{Known, IsBookOf}
use Rattle.desk_rounds.specs.RunOver.{AreRun}
use Rattle.desk_rounds.specs.Three.{EachThree}
use Rattle.desk_rounds.specs.Told.{AreLegalIn, AreCutIn, Spoken, IsWholly, AreCutRounds}
use Rattle.program_words.specs.Rounds.{Pair, have_one_pair_each}
use Rattle.program_words.specs.declared.rounds.PlacedPair.{PlacedPair}
use Rattle.response_program.specs.Names.{Names}
use Rattle.response_program.specs.Views.{View}
use Rattle.response_program.specs.Outcomes.{Outcome, NoMemory, stop_of}
use Rattle.response_program.specs.Desks.{DeskView, Opens, AreGivenBack, HasServedAll}

-- into rounds ----------------------------------------------------------------------------------------------------------------

-- desks for these pairs
abbrev pub AreNamed : List Pair → List DeskView → Type 0
AreNamed [] [] = Unit {0}
AreNamed (pair ∷ pairs) (desk ∷ desks) = (desk.pair ≡ pair) × AreNamed pairs desks
AreNamed pairs desks = ⊥

module _ {D : Type 0} where
  -- the rounds with one more, if one begins
  abbrev pub begun : Bool → List (List D) → List (List D)
  begun true rounds = rounds ++ [] ∷ []
  begun false rounds = rounds

  -- the rounds with one more desk, which may begin a round
  abbrev pub put : Bool → List (List D) → D → List (List D)
  put begins rounds desk = with_desk (begun begins rounds) desk

  -- the rounds with a desk for each pair: a round begins behind each pair that ends one
  abbrev pub filled : Bool → List (List D) → List PlacedPair → List D → List (List D)
  filled begins rounds (placed ∷ pairs) (desk ∷ desks) = filled placed.ends_round (put begins rounds desk) pairs desks
  filled begins rounds pairs desks = rounds

-- the meanings of sources and of sinks come first
module _ {S K : Type 0} (left : S → Option (List ℕ)) (reads : S → ℕ) (taken : K → Option (List ℕ)) (writes : K → ℕ) where
  -- a desk of a round, with the names of its files
  abbrev pub desk_at : Pair → Desk S K → DeskView
  desk_at pair desk = record { pair = pair; left = left desk.source; reads = reads desk.source; taken = taken desk.sink; writes = writes desk.sink }

  abbrev pub desks_at : List Pair → List (Desk S K) → List DeskView
  desks_at (pair ∷ pairs) (desk ∷ desks) = desk_at pair desk ∷ desks_at pairs desks
  desks_at pairs desks = []

module _ {S K : Type 0} (source_label : S → List ℕ) (sink_label : K → List ℕ) where
  -- the files of each desk bear the names of its pair
  abbrev pub AreLabelled : List Pair → List (Desk S K) → Type 0
  AreLabelled [] [] = Unit {0}
  AreLabelled (pair ∷ pairs) (desk ∷ desks) = (source_label desk.source ≡ pair.input) × (sink_label desk.sink ≡ pair.output) × AreLabelled pairs desks
  AreLabelled pairs desks = ⊥

module _ {S K : Type 0} (left : S → Option (List ℕ)) (reads : S → ℕ) (source_label : S → List ℕ) (taken : K → Option (List ℕ)) (writes : K → ℕ) (sink_label : K → List ℕ) where
  -- desks from a queue were put into rounds
  pub record AreFilled (begins : Bool) (olds news : List (List (Desk S K))) (pairs : List PlacedPair) (named : List Pair) (waiting : List DeskView) : Type 0 where
    pub desks : List (Desk S K)
    pub rounds_are : news ≡ filled begins olds pairs desks
    pub views_are : waiting ≡ desks_at left reads taken writes named desks
    pub labelled : AreLabelled source_label sink_label named desks
    pub unserved : AllByRecursion (λ (desk : Desk S K). desk.served ≡ None) desks

  -- rounds were served at an office that shared a book, and the book was handed out
  pub record AreServedAt (before after : State) (olds news : List (List (Desk S K))) : Type 0 where
    pub turn : TurnId
    pub p : Known
    pub q : Known
    pub ground_is : p.basis ≡ Some (record { base = before.base; earlier = before.earlier })
    pub run : AreRun left reads source_label taken writes sink_label turn p q olds news
    pub legal : AreLegalIn left taken q olds news
    pub cut : AreCutIn left taken reads writes q olds news
    pub faults : ℕ
    pub book_is : IsBookOf q (record { base = after.base; earlier = after.earlier }) (story_of after.entries) faults

-- served in rounds -----------------------------------------------------------------------------------------------------------

-- a session was served at a desk and ended so: a fault is told only where the count of such faults rose, and that the input is too long
-- only where it is, and it isn't where the session ended
pub record IsCome (old new : DeskView) (served : Served) : Type 0 where
  pub pair_is : new.pair ≡ old.pair
  pub read : served ≡ ends.ReadFault → Rose old.reads new.reads
  pub written : served ≡ ends.WriteFault → Rose old.writes new.writes
  pub limit : served ≡ ends.Limit → (input : List ℕ) → old.left ≡ Some input → is_past_limit input ≡ true
  pub within : (count : ℕ) → served ≡ ends.Ended count → (input : List ℕ) → old.left ≡ Some input → is_past_limit input ≡ false

-- desks keep their names
abbrev pub KeepNames : List DeskView → List DeskView → Type 0
KeepNames [] [] = Unit {0}
KeepNames (old ∷ olds) (new ∷ news) = (new.pair ≡ old.pair) × KeepNames olds news
KeepNames olds news = ⊥

-- desks, numbered on from this, up to the first whose session didn't end: that one's outcome is told, or that there was no memory
pub data AreCome : ℕ → List DeskView → List DeskView → Option Outcome → Type 0 where
  none : (session : ℕ) → AreCome session [] [] None
  ended : (session count : ℕ) (old new : DeskView) (olds news : List DeskView) (stop : Option Outcome)
      → IsCome old new (ends.Ended count) → AreCome (session + 1) olds news stop → AreCome session (old ∷ olds) (new ∷ news) stop
  stopped : (session : ℕ) (old new : DeskView) (olds news : List DeskView) (served : Served) (outcome : Outcome)
      → IsCome old new served → stop_of old.pair session served ≡ Some outcome → KeepNames olds news → AreCome session (old ∷ olds) (new ∷ news) (Some outcome)
  no_memory : (session : ℕ) (olds news : List DeskView) → KeepNames olds news → AreCome session olds news (Some NoMemory)

-- a desk's source tells what it has, and its sink that it has taken nothing yet
abbrev pub IsTellingDesk : DeskView → Type 0
IsTellingDesk desk = IsSome desk.left × (desk.taken ≡ Some [])

-- each desk was sent what its source had left, and wrote what its sink has taken
abbrev pub DesksHold : List DeskView → List DeskView → (inputs outputs : List (List ℕ)) → Type 0
DesksHold [] [] [] [] = Unit {0}
DesksHold (old ∷ olds) (new ∷ news) (input ∷ inputs) (output ∷ outputs) = (old.left ≡ Some input) × (new.taken ≡ Some output) × DesksHold olds news inputs outputs
DesksHold olds news inputs outputs = ⊥

-- the session of a desk met no fault: no read of its input and no write of its output failed, and its input isn't too long
pub record IsUnhurtDesk (old new : DeskView) (spoken : Spoken) : Type 0 where
  pub read : Rose old.reads new.reads → ⊥
  pub written : Rose old.writes new.writes → ⊥
  pub within : is_past_limit spoken.input ≡ false

-- a session that met none is whole: in the first round, and in each behind rounds whose sessions all met none
abbrev pub AreWholeDesks : List DeskView → List DeskView → List (List Spoken) → Type 0
AreWholeDesks olds news [] = Unit {0}
AreWholeDesks olds news (round ∷ rounds) =
    EachThree (λ old new spoken. IsUnhurtDesk old new spoken → IsWholly spoken) (take (length round) olds) (take (length round) news) round
    × (EachThree IsUnhurtDesk (take (length round) olds) (take (length round) news) round → AreWholeDesks (drop (length round) olds) (drop (length round) news) rounds)

-- desks were served in rounds of these lengths, over contents and with these entries at the end: where all sessions ended they are a legal
-- run, and else one that was cut short
pub record AreServedInRounds (contents : Contents) (shape : List ℕ) (entries : List Entry) (olds news : List DeskView) (stop : Option Outcome) : Type 0 where
  pub come : AreCome 1 olds news stop
  pub done : stop ≡ None → IsLegal contents entries → AllByRecursion IsTellingDesk olds
      → (rounds : List (List runs.Desk)) × DesksHold olds news (map (λ desk. desk.input) (all_desks rounds)) (map (λ desk. desk.output) (all_desks rounds))
      × (map length rounds ≡ shape) × IsRun contents [] entries rounds × AllByRecursion (λ (desk : runs.Desk). is_past_limit desk.input ≡ false) (all_desks rounds)
  pub cut : IsLegal contents entries → AllByRecursion IsTellingDesk olds
      → (rounds : List (List Spoken)) × DesksHold olds news (map (λ spoken. spoken.input) (all_desks rounds)) (map (λ spoken. spoken.output) (all_desks rounds))
      × (map length rounds ≡ shape) × AreCutRounds contents [] entries 1 rounds × (stop ≢ Some NoMemory → AreWholeDesks olds news rounds)

-- all of it ------------------------------------------------------------------------------------------------------------------

-- all pairs were opened, served in rounds, and given back
pub record HasServedRounds (contents : Contents) (old new : View) (pairs : List Pair) (shape : List ℕ) (entries : List Entry) (stop : Option Outcome) : Type 0 where
  pub opened : View
  pub desks : List DeskView
  pub left : List DeskView
  pub opens : Opens old pairs desks opened
  pub served : AreServedInRounds contents shape entries desks left stop
  pub closed : AreGivenBack opened left new

-- the sessions of a run were served: one after the other where each round has one, and else in rounds
pub data HasServedRun (contents : Contents) (old new : View) (names : Names) (entries : List Entry) (stop : Option Outcome) : Type 0 where
  in_order : have_one_pair_each names.rounds ≡ true → HasServedAll contents old new names.pairs entries stop → HasServedRun contents old new names entries stop
  in_rounds : have_one_pair_each names.rounds ≡ false → HasServedRounds contents old new names.pairs (map length names.rounds) entries stop
      → HasServedRun contents old new names entries stop
