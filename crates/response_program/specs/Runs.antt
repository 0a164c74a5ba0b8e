-- What a run comes to, as the shelf tells it.
use Rattle.std.specs.Prelude.{◌≡◌, ◌≢◌, ◌⊎◌, ℕ, ◌+◌, ◌-◌, true, false, List, [], ◌∷◌, length, take, drop, map, Some, Ok, Err, IsSome, is_some, slice_get}
use Rattle.std.specs.List.{AllByRecursion}
use Rattle.plan_schema.specs.declared.change.Entry.{Entry}
use Rattle.plan_schema.specs.Contents.{Contents}
use Rattle.plan_schema.specs.Outside.{Rose, IsKeptOrEmpty}
use Rattle.plan_import.specs.declared.ImportFault.{ImportFault}
use Rattle.plan_import.specs.BaseFile.{base_of}
use Rattle.plan_journal.specs.Entries.{journal_text}
use Rattle.scenario_rules.specs.Journal.{IsLegal}
use Rattle.session_rules.specs.Runs.{Desk, IsRun}
use Rattle.request_loop.specs.Serving.{is_past_limit}
use Rattle.sessions.specs.Serving.{IsServed, IsServedShort}
use Rattle.byte_lines.specs.Desks.{all_desks}
use Rattle.desk_rounds.specs.Two.{EachTwo}
use Rattle.desk_rounds.specs.Told.{Spoken, IsWholly, AreCutRounds}
use Rattle.program_words.specs.Rounds.{have_one_pair_each}
use Rattle.response_program.specs.declared.ending.Totals.{Totals}
use Rattle.response_program.specs.Names.{Pair, Names, console}
use Rattle.response_program.specs.Views.{View, NoneFell}
use Rattle.response_program.specs.Outcomes.{Outcome, Done, NoMemory, Refused, NotOpened, NotRead, NotWritten, TooLong, HasCause}
use Rattle.response_program.specs.Desks.{session_of}

-- the shelf tells what it holds
abbrev pub Tells : View → Type 0
Tells shelf = (name : List ℕ) → IsSome (shelf.held name)

-- no output bears this name
abbrev pub IsNoOutput : Names → List ℕ → Type 0
IsNoOutput names name = AllByRecursion (λ (pair : Pair). name ≢ pair.output) names.pairs

-- a fault of the base: it is refused, or wasn't read
abbrev pub IsOfBase : Names → Outcome → Type 0
IsOfBase names (Refused fault) = Unit {0}
IsOfBase names (NotRead name) = name ≡ names.base
IsOfBase names outcome = ⊥

-- a session was cut short: its input failed or is too long, or its output failed
abbrev pub IsCut : Names → Outcome → Type 0
IsCut names (TooLong session) = Unit {0}
IsCut names (NotRead name) = name ≢ names.base
IsCut names (NotWritten name) = (name ≢ names.journal) × (name ≢ console)
IsCut names outcome = ⊥

-- everything is done ---------------------------------------------------------------------------------------------------------

-- each session was sent what its input held before, and its output holds what it wrote
abbrev pub AreHeld : View → View → List Pair → (inputs outputs : List (List ℕ)) → Type 0
AreHeld old new [] [] [] = Unit {0}
AreHeld old new (pair ∷ pairs) (input ∷ inputs) (output ∷ outputs) = (old.held pair.input ≡ Some input) × (new.held pair.output ≡ Some output) × AreHeld old new pairs inputs outputs
AreHeld old new pairs inputs outputs = ⊥

-- over contents, with these entries: the run of the sessions, in rounds as the words tell them, is legal, and no input is too long
pub record AreDoneOver (old new : View) (names : Names) (contents : Contents) (entries : List Entry) : Type 0 where
  pub rounds : List (List Desk)
  pub shape : map length rounds ≡ map length names.rounds
  pub held : AreHeld old new names.pairs (map (λ desk. desk.input) (all_desks rounds)) (map (λ desk. desk.output) (all_desks rounds))
  pub legal : IsRun contents [] entries rounds
  pub within : AllByRecursion (λ (desk : Desk). is_past_limit desk.input ≡ false) (all_desks rounds)

-- and the journal held is that of the entries
pub record IsDoneOver (old new : View) (names : Names) (contents : Contents) (entries : List Entry) : Type 0 where
  pub journal_is : new.held names.journal ≡ Some (journal_text entries)
  pub sessions : AreDoneOver old new names contents entries

-- the totals of a run: how many entries there are; and what was netted, reused and dropped is told just where each round has one session
pub record AreTotals (names : Names) (entries : List Entry) (totals : Totals) : Type 0 where
  pub counted : totals.entries ≡ length entries
  pub told : is_some totals.work ≡ have_one_pair_each names.rounds

-- an input is too long -------------------------------------------------------------------------------------------------------

-- it is that of the session with this number, and those of earlier sessions are within the limit
pub record IsTooLongIn (old : View) (names : Names) (session : ℕ) : Type 0 where
  pub pair : Pair
  pub at : slice_get names.pairs (session - 1) ≡ Some pair
  pub input : List ℕ
  pub held : old.held pair.input ≡ Some input
  pub past : is_past_limit input ≡ true
  pub earlier : AllByRecursion (λ (other : Pair). (text : List ℕ) → old.held other.input ≡ Some text → is_past_limit text ≡ false) (take (session - 1) names.pairs)

-- a session was cut short ----------------------------------------------------------------------------------------------------

-- the sessions from this number on, over the entries behind the earlier ones: the first ones are whole; the output of the one that was
-- cut short is the text of legal replies to its first requests, maybe without a part of the last one; and later outputs are empty
pub data AreCut (old new : View) (contents : Contents) : ℕ → List Entry → List Pair → List Entry → Type 0 where
  whole : (session count : ℕ) (earlier between entries : List Entry) (pair : Pair) (pairs : List Pair) (input : List ℕ) → old.held pair.input ≡ Some input
      → IsServed (session_of contents session earlier) between input (Some []) (new.held pair.output) count
      → AreCut old new contents (session + 1) between pairs entries → AreCut old new contents session earlier (pair ∷ pairs) entries
  short : (session : ℕ) (earlier entries : List Entry) (pair : Pair) (pairs : List Pair) (input : List ℕ) → old.held pair.input ≡ Some input
      → IsServedShort (session_of contents session earlier) entries input (Some []) (new.held pair.output)
      → AllByRecursion (λ (other : Pair). new.held other.output ≡ Some []) pairs → AreCut old new contents session earlier (pair ∷ pairs) entries

-- the session of a pair met no fault: no read of its input and no write of its output failed, and its input isn't too long
pub record IsUnhurt (old new : View) (pair : Pair) (spoken : Spoken) : Type 0 where
  pub read : Rose (old.reads pair.input) (new.reads pair.input) → ⊥
  pub written : Rose (old.writes pair.output) (new.writes pair.output) → ⊥
  pub within : is_past_limit spoken.input ≡ false

-- a session that met none has each of its replies, whole: in the first round, and in each behind rounds whose sessions all met none
abbrev pub AreWholeUnhurt : View → View → List Pair → List (List Spoken) → Type 0
AreWholeUnhurt old new pairs [] = Unit {0}
AreWholeUnhurt old new pairs (round ∷ rounds) =
    EachTwo (λ pair spoken. IsUnhurt old new pair spoken → IsWholly spoken) (take (length round) pairs) round
    × (EachTwo (IsUnhurt old new) (take (length round) pairs) round → AreWholeUnhurt old new (drop (length round) pairs) rounds)

-- the same for rounds: all sessions of the rounds before the last that was begun are whole, and each output holds what its session wrote
pub record AreCutInRounds (old new : View) (names : Names) (contents : Contents) (entries : List Entry) : Type 0 where
  pub rounds : List (List Spoken)
  pub shape : map length rounds ≡ map length names.rounds
  pub held : AreHeld old new names.pairs (map (λ spoken. spoken.input) (all_desks rounds)) (map (λ spoken. spoken.output) (all_desks rounds))
  pub cut : AreCutRounds contents [] entries 1 rounds
  pub whole : AreWholeUnhurt old new names.pairs rounds

-- one session after the other where each round has one, and else in rounds
pub record AreCutOver (old new : View) (names : Names) (contents : Contents) (entries : List Entry) : Type 0 where
  pub in_order : have_one_pair_each names.rounds ≡ true → AreCut old new contents 1 [] names.pairs entries
  pub in_rounds : have_one_pair_each names.rounds ≡ false → AreCutInRounds old new names contents entries

pub record IsShortOver (old new : View) (names : Names) (contents : Contents) (entries : List Entry) : Type 0 where
  pub legal : IsLegal contents entries
  pub journal_is : new.held names.journal ≡ Some (journal_text entries)
  pub outputs : AreCutOver old new names contents entries

-- runs -----------------------------------------------------------------------------------------------------------------------

-- over contents, with these entries at the end
pub record HasRunOver (old new : View) (names : Names) (contents : Contents) (entries : List Entry) (outcome : Outcome) : Type 0 where
  pub none_fell : NoneFell old new
  pub others : (name : List ℕ) → name ≢ names.journal → IsNoOutput names name → new.held name ≡ old.held name
  pub cause : HasCause old new outcome
  pub not_of_base : IsOfBase names outcome → ⊥
  pub opened : (failed : List ℕ) → outcome ≡ NotOpened failed → Tells old → (name : List ℕ) → IsKeptOrEmpty (old.held name) (new.held name)
  pub totals : (totals : Totals) → outcome ≡ Done totals → AreTotals names entries totals
  pub done : (totals : Totals) → outcome ≡ Done totals → Tells old → IsDoneOver old new names contents entries
  pub limit : (session : ℕ) → outcome ≡ TooLong session → Tells old → IsTooLongIn old names session
  pub cut : IsCut names outcome → Tells old → (Rose (old.writes names.journal) (new.writes names.journal) → ⊥) → IsShortOver old new names contents entries

-- there was no memory for a book, so nothing was done
pub record HasNoBook (old new : View) (outcome : Outcome) : Type 0 where
  pub same : new ≡ old
  pub memory : outcome ≡ NoMemory

-- over contents with a book of its own: the same with some entries, or there was no memory for the book
abbrev pub HasRunBook : View → View → Names → Contents → Outcome → Type 0
HasRunBook old new names contents outcome = HasNoBook old new outcome ⊎ ((entries : List Entry) × HasRunOver old new names contents entries outcome)

-- the base held reads to contents
pub record ReadsTo (old : View) (names : Names) (contents : Contents) : Type 0 where
  pub base : List ℕ
  pub held : old.held names.base ≡ Some base
  pub read : base_of base ≡ Ok contents

-- everything is done, a session was cut short, an input is too long: over the base held
pub record IsDone (old new : View) (names : Names) (totals : Totals) : Type 0 where
  pub contents : Contents
  pub base_is : ReadsTo old names contents
  pub entries : List Entry
  pub totals_are : AreTotals names entries totals
  pub run : IsDoneOver old new names contents entries

pub record IsShort (old new : View) (names : Names) : Type 0 where
  pub contents : Contents
  pub base_is : ReadsTo old names contents
  pub entries : List Entry
  pub run : IsShortOver old new names contents entries

pub record IsTooLong (old : View) (names : Names) (session : ℕ) : Type 0 where
  pub contents : Contents
  pub base_is : ReadsTo old names contents
  pub input : IsTooLongIn old names session

pub record HasRun (old new : View) (names : Names) (outcome : Outcome) : Type 0 where
  pub none_fell : NoneFell old new
  pub others : (name : List ℕ) → name ≢ names.journal → IsNoOutput names name → new.held name ≡ old.held name
  pub cause : HasCause old new outcome
  pub refused : (fault : ImportFault) → outcome ≡ Refused fault → (base : List ℕ) → old.held names.base ≡ Some base → base_of base ≡ Err fault
  pub kept : IsOfBase names outcome → (name : List ℕ) → new.held name ≡ old.held name
  pub opened : (failed : List ℕ) → outcome ≡ NotOpened failed → Tells old → (name : List ℕ) → IsKeptOrEmpty (old.held name) (new.held name)
  pub done : (totals : Totals) → outcome ≡ Done totals → Tells old → IsDone old new names totals
  pub limit : (session : ℕ) → outcome ≡ TooLong session → Tells old → IsTooLong old names session
  pub cut : IsCut names outcome → Tells old → (Rose (old.writes names.journal) (new.writes names.journal) → ⊥) → IsShort old new names
