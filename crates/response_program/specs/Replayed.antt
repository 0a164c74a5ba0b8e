-- What a replay comes to: a session behind a journal, which may change nothing. The promise that its users rely on.
use Rattle.std.specs.Prelude.{◌≡◌, ◌≢◌, ◌⊎◌, ℕ, ◌+◌, false, true, List, [], length, is_some, Some}
use Rattle.std.specs.List.{AllByRecursion}
use Rattle.plan_schema.specs.declared.change.Entry.{Entry}
use Rattle.plan_schema.specs.declared.refusal.Refusal.{Refusal}
use Rattle.plan_schema.specs.Contents.{Contents}
use Rattle.plan_schema.specs.Outside.{Rose, IsKeptOrEmpty, StaysBut}
use Rattle.plan_journal.specs.Laws.{IsTextOf}
use Rattle.command_words.specs.declared.reply.Reply.{Reply}
use Rattle.scenario_rules.specs.Journal.{IsLegal}
use Rattle.session_rules.specs.Requests.{Request, guest}
use Rattle.session_rules.specs.Sessions.{AreReplies, point_after}
use Rattle.request_loop.specs.Serving.{is_past_limit}
use Rattle.sessions.specs.Serving.{IsWhole, IsShort}
use Rattle.plan_core.specs.Behind.{IsFirstRefused}
use Rattle.response_program.specs.declared.ending.Totals.{Totals}
use Rattle.response_program.specs.declared.ending.BadJournal.{BadJournal}
use Rattle.response_program.specs.declared.ending.BadJournal.TheVariants as bad_journals
use Rattle.response_program.specs.declared.replay.ReplayFiles.{ReplayFiles}
use Rattle.response_program.specs.Names.{Pair, pair_of, console}
use Rattle.response_program.specs.Views.{View, NoneFell}
use Rattle.response_program.specs.Outcomes.{Outcome, Done, NoMemory, Refused, OfJournal, NotOpened, NotRead, NotWritten, TooLong, HasCause, status_of, console_line}
use Rattle.response_program.specs.Runs.{Tells}
use Rattle.response_program.specs.Histories.{HoldsBase, HoldsNoBase, HoldsJournal, IsNoJournal}

-- the files of a replay: the base, the journal, and those of its session
pub record ReplayNames : Type 0 where
  pub base : List ℕ
  pub journal : List ℕ
  pub pair : Pair

abbrev pub replay_of : ReplayFiles → ReplayNames
replay_of files = record { base = files.base.now; journal = files.journal.now; pair = pair_of files.pair }

-- the names that the words give
abbrev pub replay_names : List ℕ → List ℕ → List ℕ → List ℕ → ReplayNames
replay_names base journal input output = record { base = base; journal = journal; pair = record { input = input; output = output } }

-- none of them is the console, and the output is none of those that are read, which may be one file
pub record AreOfReplay (names : ReplayNames) : Type 0 where
  pub output_base : names.pair.output ≢ names.base
  pub output_journal : names.pair.output ≢ names.journal
  pub output_input : names.pair.output ≢ names.pair.input
  pub base_console : names.base ≢ console
  pub journal_console : names.journal ≢ console
  pub input_console : names.pair.input ≢ console
  pub output_console : names.pair.output ≢ console

-- one of the files of a pair can't be opened, or there is no memory
abbrev pub IsOfPair : Pair → Outcome → Type 0
IsOfPair pair (NotOpened name) = (name ≡ pair.input) ⊎ (name ≡ pair.output)
IsOfPair pair outcome = Unit {0}

-- the session ----------------------------------------------------------------------------------------------------------------

-- Legal replies to requests behind entries that none of them may add to: each change is told so, but that there may be no memory for a
-- LOAD, and all else gets its answer. Each point that is printed is the number of the entries.
pub record AreUnchanging (contents : Contents) (entries : List Entry) (requests : List Request) (given : List Reply) : Type 0 where
  pub legal : AreReplies false contents entries 1 (length entries) (length entries) guest requests given
  pub printed : AllByRecursion (λ reply. point_after (length entries) reply ≡ length entries) given

module _ (old new : View) (pair : Pair) (contents : Contents) (entries : List Entry) where
  -- the session ended: the output holds a reply to each request of the input, and the totals tell how many entries there are
  pub record IsSeen (totals : Totals) : Type 0 where
    pub counted : totals.entries ≡ length entries
    pub told : is_some totals.work ≡ true
    pub input : List ℕ
    pub input_is : old.held pair.input ≡ Some input
    pub count : ℕ
    pub session : IsWhole (AreUnchanging contents entries) input (Some []) (new.held pair.output) count

  -- it was cut short: the output holds the replies to its first requests, maybe without a part of the last one
  pub record IsSeenShort : Type 0 where
    pub input : List ℕ
    pub input_is : old.held pair.input ≡ Some input
    pub session : IsShort (AreUnchanging contents entries) input (Some []) (new.held pair.output)

  -- what the session shows, by the outcome. It may also be that one of its files couldn't be opened, or that the console failed when all
  -- was done.
  abbrev pub Shows : Outcome → Type 0
  Shows (Done totals) = IsSeen totals
  Shows NoMemory = Unit {0}
  Shows (NotOpened name) = ((name ≡ pair.input) ⊎ (name ≡ pair.output)) × IsKeptOrEmpty (old.held pair.output) (new.held pair.output)
  Shows (NotRead name) = (name ≡ pair.input) × IsSeenShort
  Shows (NotWritten name) = ((name ≡ pair.output) × IsSeenShort) ⊎ ((name ≡ console) × ((totals : Totals) × IsSeen totals))
  Shows (TooLong session) = (session ≡ 1) × ((short : IsSeenShort) × (is_past_limit short.input ≡ true))
  Shows outcome = ⊥

  -- the files of the pair were opened, the session was served, and they were given back, as far as that could be
  pub record HasShown (outcome : Outcome) : Type 0 where
    pub none_fell : NoneFell old new
    pub cause : HasCause old new outcome
    pub others : StaysBut pair.output old.held new.held
    pub shows : Tells old → Shows outcome

-- the base and the journal ---------------------------------------------------------------------------------------------------

-- the entry with a number is the first that is refused
pub record IsRefusedAt (contents : Contents) (entries : List Entry) (number : ℕ) : Type 0 where
  pub point : ℕ
  pub number_is : number ≡ point + 1
  pub refusal : Refusal
  pub first : IsFirstRefused contents entries point refusal

-- why a text is no journal that can be replayed over contents
abbrev pub IsBad : Contents → List ℕ → BadJournal → Type 0
IsBad contents text (bad_journals.Refused number) = (entries : List Entry) × IsTextOf text entries × IsRefusedAt contents entries number
IsBad contents text bad = IsNoJournal text bad

pub record HoldsBadJournal (shelf : View) (names : ReplayNames) (bad : BadJournal) : Type 0 where
  pub contents : Contents
  pub base : HoldsBase shelf names.base contents
  pub journal : List ℕ
  pub held : shelf.held names.journal ≡ Some journal
  pub why : IsBad contents journal bad

-- all of it ------------------------------------------------------------------------------------------------------------------

module _ (old new : View) (names : ReplayNames) where
  -- why it went no further than the journal
  abbrev pub IsStopped : Outcome → Type 0
  IsStopped NoMemory = Unit {0}
  IsStopped (Refused fault) = HoldsNoBase old names.base fault
  IsStopped (OfJournal bad) = HoldsBadJournal old names bad
  IsStopped (NotOpened name) = (name ≡ console) ⊎ ((name ≡ names.base) ⊎ (name ≡ names.journal))
  IsStopped (NotRead name) = (name ≡ names.base) ⊎ (name ≡ names.journal)
  IsStopped outcome = ⊥

  -- it went no further, and everything but the console is as before
  pub record HasStopped (outcome : Outcome) : Type 0 where
    pub why : IsStopped outcome
    pub kept : StaysBut console old.held new.held

  -- the base reads to contents, and the journal is that of a legal history of changes to them, behind which the session was begun
  pub record HasGoneOn (outcome : Outcome) : Type 0 where
    pub contents : Contents
    pub base : HoldsBase old names.base contents
    pub entries : List Entry
    pub journal : HoldsJournal old names.journal entries
    pub legal : IsLegal contents entries
    pub shows : Shows old new names.pair contents entries outcome

  -- one of the two, on a shelf that tells
  pub record HasReplayedFiles (outcome : Outcome) : Type 0 where
    pub none_fell : NoneFell old new
    pub cause : HasCause old new outcome
    pub others : (name : List ℕ) → name ≢ names.pair.output → name ≢ console → new.held name ≡ old.held name
    pub comes : Tells old → HasStopped outcome ⊎ HasGoneOn outcome

  -- The program replayed a journal and answered a status. No count of faults fell, and a file that failed is told only where its count of
  -- that kind rose. Everything but the output and the console is as before. What is said of files is said on a shelf that tells what it
  -- holds.
  -- Status 0: the base reads to contents, the journal is that of a legal history of changes to them, of whose length the console tells, and
  -- the output is the text of replies to the input's requests that are legal behind this history: each change is told that nothing may be
  -- changed, and each point printed is the history's length.
  -- Status 3: the base is refused for its first fault. Status 9: the journal's text is no journal's, has too many bytes, or has an entry
  -- that is refused, the first of which is told; with the statuses below it is none of these, but where the base or the journal wasn't
  -- read. With both, everything but the console is as before. Status 4: the output too is as before or empty.
  -- Status 7: the input is too long. With it, and where the input or the output failed, the output is the text of legal replies to the
  -- first requests, maybe without a part of the last one.
  -- But for want of memory the console holds the line of the outcome, unless the console itself failed.
  pub record HasReplayed (status : ℕ) : Type 0 where
    pub outcome : Outcome
    pub status_is : status ≡ status_of outcome
    pub files : HasReplayedFiles outcome
    pub told : outcome ≢ NoMemory → Tells old → (Rose (old.opens console) (new.opens console) → ⊥) → (Rose (old.writes console) (new.writes console) → ⊥)
        → new.held console ≡ Some (console_line outcome)
