-- A replay: what its files hold, and what the console adds.
use Rattle.std.proofs.Common.{◌≡◌, ℕ, List, [], Option, Some, Result, Ok, Err, refl, sym, ap, subst, ◌∙◌, inl, inr}
use Rattle.std.specs.Prelude.{◌⊎◌, IsSome}
use Rattle.plan_schema.specs.declared.change.Entry.{Entry}
use Rattle.plan_schema.specs.declared.outside.SinkFault.{SinkFault}
use Rattle.plan_schema.specs.declared.outside.SinkFault.TheVariants as sinks
use Rattle.plan_schema.specs.declared.outside.ShelfFault.{ShelfFault}
use Rattle.plan_schema.specs.declared.outside.ShelfFault.TheVariants as shelves
use Rattle.plan_schema.specs.Contents.{Contents}
use Rattle.plan_schema.specs.Outside.{Rose, IsKeptOrEmpty, StaysBut, Stays, extended}
use Rattle.plan_schema.proofs.Writes.{rose_after}
use Rattle.scenario_rules.specs.Journal.{IsLegal}
use Rattle.sessions.specs.Serving.{IsWhole, IsShort}
use Rattle.response_program.specs.declared.ending.Totals.{Totals}
use Rattle.response_program.specs.declared.ending.BadJournal.{BadJournal}
use Rattle.response_program.specs.declared.ending.BadJournal.TheVariants as bad_journals
use Rattle.response_program.specs.Names.{Pair, console}
use Rattle.response_program.specs.Views.{View, NoneFell}
use Rattle.response_program.specs.Outcomes.{Outcome, Done, Made, Tried, Legal, OfJournal, NotLegal, NoMemory, Refused, NotOpened, NotRead, NotWritten, TooLong, HasCause, status_of, console_line, of_open, and_written}
use Rattle.response_program.specs.Desks.{IsUnopened, IsOpening}
use Rattle.response_program.specs.Runs.{Tells}
use Rattle.response_program.specs.Console.{HasTold}
use Rattle.response_program.specs.Histories.{HoldsBase, IsNoJournal, ReadsBase, ReadsJournal, IsNoBaseFor, IsNoJournalFor, IsNoHistory, IsHistoryUnread}
use Rattle.response_program.specs.Replayed.{ReplayNames, AreOfReplay, IsOfPair, AreUnchanging, IsSeen, IsSeenShort, Shows, HasShown, IsBad, IsRefusedAt, IsStopped, HasStopped, HasGoneOn, HasReplayedFiles, HasReplayed}
use Rattle.response_program.proofs.Chains.{same_fell, both_fell, cause_later, cause_after}
use Rattle.response_program.proofs.Endings.{written_cause, written_told}
use Rattle.response_program.proofs.Headline.{made_tells}
use Rattle.response_program.proofs.Histories.{holds_base, holds_journal}

-- over a shelf on which nothing but the console changes, before and behind -----------------------------------------------------

module _ (old mid late new : View) (names : ReplayNames) (apart : AreOfReplay names) (before : StaysBut console old.held mid.held) (after : StaysBut console late.held new.held) where
  abbrev short_over : (contents : Contents) (entries : List Entry) → IsSeenShort mid late names.pair contents entries → IsSeenShort old new names.pair contents entries
  short_over contents entries h =
      record {
        input = h.input;
        input_is = sym (before names.pair.input apart.input_console) ∙ h.input_is;
        session = subst (λ held. IsShort (AreUnchanging contents entries) h.input (Some []) held) (sym (after names.pair.output apart.output_console)) h.session;
      }

  whole_over : (contents : Contents) (entries : List Entry) (totals : Totals) → IsSeen mid late names.pair contents entries totals → IsSeen old new names.pair contents entries totals
  whole_over contents entries totals h =
      record {
        counted = h.counted;
        told = h.told;
        input = h.input;
        input_is = sym (before names.pair.input apart.input_console) ∙ h.input_is;
        count = h.count;
        session = subst (λ held. IsWhole (AreUnchanging contents entries) h.input (Some []) held h.count) (sym (after names.pair.output apart.output_console)) h.session;
      }

  kept_over : IsKeptOrEmpty (mid.held names.pair.output) (late.held names.pair.output) → IsKeptOrEmpty (old.held names.pair.output) (new.held names.pair.output)
  kept_over (inl same) = inl (after names.pair.output apart.output_console ∙ same ∙ before names.pair.output apart.output_console)
  kept_over (inr empty) = inr (after names.pair.output apart.output_console ∙ empty)

  shows_over : (contents : Contents) (entries : List Entry) (outcome : Outcome) → Shows mid late names.pair contents entries outcome → Shows old new names.pair contents entries outcome
  shows_over contents entries (Done totals) h = whole_over contents entries totals h
  shows_over contents entries (Made parts) h = absurd h
  shows_over contents entries (Tried trial) h = absurd h
  shows_over contents entries (Legal count) h = absurd h
  shows_over contents entries NoMemory h = tt
  shows_over contents entries (Refused fault) h = absurd h
  shows_over contents entries (OfJournal bad) h = absurd h
  shows_over contents entries (NotLegal breach) h = absurd h
  shows_over contents entries (NotOpened name) h = (h.0, kept_over h.1)
  shows_over contents entries (NotRead name) h = (h.0, short_over contents entries h.1)
  shows_over contents entries (NotWritten name) (inl h) = inl (h.0, short_over contents entries h.1)
  shows_over contents entries (NotWritten name) (inr h) = inr (h.0, (h.1.0, whole_over contents entries h.1.0 h.1.1))
  shows_over contents entries (TooLong session) h = (h.0, (short_over contents entries h.1.0, h.1.1))

  base_over : (contents : Contents) → HoldsBase mid names.base contents → HoldsBase old names.base contents
  base_over contents h = record { base = h.base; held = sym (before names.base apart.base_console) ∙ h.held; read = h.read }

  stopped_over : (outcome : Outcome) → IsStopped mid late names outcome → IsStopped old new names outcome
  stopped_over (Done totals) h = absurd h
  stopped_over (Made parts) h = absurd h
  stopped_over (Tried trial) h = absurd h
  stopped_over (Legal entries) h = absurd h
  stopped_over NoMemory h = tt
  stopped_over (Refused fault) h = record { base = h.base; held = sym (before names.base apart.base_console) ∙ h.held; read = h.read }
  stopped_over (OfJournal bad) h =
      record { contents = h.contents; base = base_over h.contents h.base; journal = h.journal; held = sym (before names.journal apart.journal_console) ∙ h.held; why = h.why }
  stopped_over (NotLegal breach) h = absurd h
  stopped_over (NotOpened name) h = h
  stopped_over (NotRead name) h = h
  stopped_over (NotWritten name) h = absurd h
  stopped_over (TooLong session) h = absurd h

  gone_over : (outcome : Outcome) → HasGoneOn mid late names outcome → HasGoneOn old new names outcome
  gone_over outcome h =
      record {
        contents = h.contents;
        base = base_over h.contents h.base;
        entries = h.entries;
        journal = record { journal = h.journal.journal; held = sym (before names.journal apart.journal_console) ∙ h.journal.held; text = h.journal.text };
        legal = h.legal;
        shows = shows_over h.contents h.entries outcome h.shows;
      }

  comes_over : (outcome : Outcome) → HasStopped mid late names outcome ⊎ HasGoneOn mid late names outcome → HasStopped old new names outcome ⊎ HasGoneOn old new names outcome
  comes_over outcome (inl h) = inl (record { why = stopped_over outcome h.why; kept = λ name other. after name other ∙ h.kept name other ∙ before name other })
  comes_over outcome (inr h) = inr (gone_over outcome h)

-- steps before the session -----------------------------------------------------------------------------------------------------

-- it stopped on a shelf that holds what it held
pub stops : (old new : View) (names : ReplayNames) (outcome : Outcome) → NoneFell old new → Stays old.held new.held → HasCause old new outcome → (Tells old → IsStopped old new names outcome)
    → HasReplayedFiles old new names outcome
stops old new names outcome fell holds cause why =
    record { none_fell = fell; cause = cause; others = λ name output other. holds name; comes = λ tells. inl (record { why = why tells; kept = λ name other. holds name }) }

-- more follows behind what was read
pub goes_on : (old mid new : View) (names : ReplayNames) (outcome : Outcome) → AreOfReplay names → NoneFell old mid → Stays old.held mid.held → HasReplayedFiles mid new names outcome → HasReplayedFiles old new names outcome
goes_on old mid new names outcome apart fell holds h =
    record {
      none_fell = both_fell old mid new fell h.none_fell;
      cause = cause_after old mid new outcome fell h.cause;
      others = λ name output other. h.others name output other ∙ holds name;
      comes = λ tells. comes_over old mid new new names apart (λ name other. holds name) (λ name other. refl) outcome (h.comes (λ name. subst (λ held. IsSome held) (sym (holds name)) (tells name)));
    }

-- the base or the journal wasn't read
base_unread : (old new : View) (names : ReplayNames) (outcome : Outcome) → IsNoBaseFor old names.base outcome → IsStopped old new names outcome
base_unread old new names (Done totals) h = absurd h
base_unread old new names (Made parts) h = absurd h
base_unread old new names (Tried trial) h = absurd h
base_unread old new names (Legal entries) h = absurd h
base_unread old new names (NotLegal breach) h = absurd h
base_unread old new names NoMemory h = tt
base_unread old new names (Refused fault) h = h
base_unread old new names (OfJournal bad) h = absurd h
base_unread old new names (NotOpened name) h = inr (inl h)
base_unread old new names (NotRead name) h = inl h
base_unread old new names (NotWritten name) h = absurd h
base_unread old new names (TooLong session) h = absurd h

bad_text : (contents : Contents) (text : List ℕ) (bad : BadJournal) → IsNoJournal text bad → IsBad contents text bad
bad_text contents text (bad_journals.Form line) h = h
bad_text contents text bad_journals.Large h = h
bad_text contents text (bad_journals.Refused number) h = absurd h

journal_unread : (old new : View) (names : ReplayNames) (contents : Contents) (outcome : Outcome) → HoldsBase old names.base contents → IsNoJournalFor old names.journal outcome → IsStopped old new names outcome
journal_unread old new names contents (Done totals) base h = absurd h
journal_unread old new names contents (Made parts) base h = absurd h
journal_unread old new names contents (Tried trial) base h = absurd h
journal_unread old new names contents (Legal entries) base h = absurd h
journal_unread old new names contents (NotLegal breach) base h = absurd h
journal_unread old new names contents NoMemory base h = tt
journal_unread old new names contents (Refused fault) base h = absurd h
journal_unread old new names contents (OfJournal bad) base h =
    record { contents = contents; base = base; journal = h.journal; held = h.held; why = bad_text contents h.journal bad h.why }
journal_unread old new names contents (NotOpened name) base h = inr (inr h)
journal_unread old new names contents (NotRead name) base h = inr h
journal_unread old new names contents (NotWritten name) base h = absurd h
journal_unread old new names contents (TooLong session) base h = absurd h

either_unread : (old new : View) (names : ReplayNames) (outcome : Outcome) → IsNoHistory old names.base names.journal outcome → IsStopped old new names outcome
either_unread old new names outcome (inl h) = base_unread old new names outcome h
either_unread old new names outcome (inr h) = journal_unread old new names h.0.0 outcome h.0.1 h.1

pub no_history : (old new : View) (names : ReplayNames) (outcome : Outcome) → NoneFell old new → Stays old.held new.held → HasCause old new outcome → IsHistoryUnread old names.base names.journal outcome
    → HasReplayedFiles old new names outcome
no_history old new names outcome fell holds cause why = stops old new names outcome fell holds cause (λ tells. either_unread old new names outcome (why tells))

-- an entry is refused
pub refused_at : (shelf : View) (names : ReplayNames) (contents : Contents) (entries : List Entry) (number : ℕ) → IsRefusedAt contents entries number → ReadsBase shelf names.base contents → ReadsJournal shelf names.journal entries
    → HasReplayedFiles shelf shelf names (OfJournal (bad_journals.Refused number))
refused_at shelf names contents entries number at base journal =
    stops shelf shelf names (OfJournal (bad_journals.Refused number)) (same_fell shelf) (λ name. refl) tt (λ tells.
    (let text = holds_journal shelf names.journal entries journal tells in
    record { contents = contents; base = holds_base shelf names.base contents base tells; journal = text.journal; held = text.held; why = (entries, text.text, at) }))

-- there was no memory
pub no_memory : (shelf : View) (names : ReplayNames) → HasReplayedFiles shelf shelf names NoMemory
no_memory shelf names = stops shelf shelf names NoMemory (same_fell shelf) (λ name. refl) tt (λ tells. tt)

-- the session was begun
pub begins : (old new : View) (names : ReplayNames) (contents : Contents) (entries : List Entry) (outcome : Outcome) → IsLegal contents entries → HasShown old new names.pair contents entries outcome
    → ReadsBase old names.base contents → ReadsJournal old names.journal entries → HasReplayedFiles old new names outcome
begins old new names contents entries outcome legal h base journal =
    record {
      none_fell = h.none_fell;
      cause = h.cause;
      others = λ name output other. h.others name output;
      comes = λ tells. inr (record {
        contents = contents;
        base = holds_base old names.base contents base tells;
        entries = entries;
        journal = holds_journal old names.journal entries journal tells;
        legal = legal;
        shows = h.shows tells;
      });
    }

-- a file of the session couldn't be opened
pub not_shown : (old new : View) (pair : Pair) (contents : Contents) (entries : List Entry) (outcome : Outcome) → IsUnopened old pair outcome new → IsOfPair pair outcome → HasShown old new pair contents entries outcome
not_shown old new pair contents entries outcome h which =
    record { none_fell = h.made.none_fell; cause = h.cause; others = h.made.others; shows = λ tells. by_kind outcome h.opening which }
  where
    by_kind : (o : Outcome) → IsOpening o → IsOfPair pair o → Shows old new pair contents entries o
    by_kind (Done totals) opening is = absurd opening
    by_kind (Made parts) opening is = absurd opening
    by_kind (Tried trial) opening is = absurd opening
    by_kind (Legal entries) opening is = absurd opening
    by_kind NoMemory opening is = tt
    by_kind (Refused fault) opening is = absurd opening
    by_kind (OfJournal bad) opening is = absurd opening
    by_kind (NotLegal breach) opening is = absurd opening
    by_kind (NotOpened name) opening is = (is, h.made.output)
    by_kind (NotRead name) opening is = absurd opening
    by_kind (NotWritten name) opening is = absurd opening
    by_kind (TooLong session) opening is = absurd opening

-- a file of a pair that couldn't be opened
pub of_pair : (pair : Pair) (name : List ℕ) (fault : ShelfFault) → (name ≡ pair.input) ⊎ (name ≡ pair.output) → IsOfPair pair (of_open name fault)
of_pair pair name shelves.Failed which = which
of_pair pair name shelves.Memory which = tt

-- the console ----------------------------------------------------------------------------------------------------------------

module _ (old new : View) (names : ReplayNames) where
  -- what a replay came to stays so, whatever the console took of its line
  stopped_written : (outcome : Outcome) (written : Result (Unit {0}) SinkFault) → IsStopped old new names outcome → IsStopped old new names (and_written outcome console written)
  stopped_written outcome (Ok done) is = is
  stopped_written outcome (Err sinks.Memory) is = tt
  stopped_written (Done totals) (Err sinks.Failed) is = absurd is
  stopped_written (Made parts) (Err sinks.Failed) is = absurd is
  stopped_written (Tried trial) (Err sinks.Failed) is = absurd is
  stopped_written (Legal entries) (Err sinks.Failed) is = absurd is
  stopped_written NoMemory (Err sinks.Failed) is = is
  stopped_written (Refused fault) (Err sinks.Failed) is = is
  stopped_written (OfJournal bad) (Err sinks.Failed) is = is
  stopped_written (NotLegal breach) (Err sinks.Failed) is = is
  stopped_written (NotOpened name) (Err sinks.Failed) is = is
  stopped_written (NotRead name) (Err sinks.Failed) is = is
  stopped_written (NotWritten name) (Err sinks.Failed) is = is
  stopped_written (TooLong session) (Err sinks.Failed) is = is

  shows_written : (contents : Contents) (entries : List Entry) (outcome : Outcome) (written : Result (Unit {0}) SinkFault) → Shows old new names.pair contents entries outcome
      → Shows old new names.pair contents entries (and_written outcome console written)
  shows_written contents entries outcome (Ok done) is = is
  shows_written contents entries outcome (Err sinks.Memory) is = tt
  shows_written contents entries (Done totals) (Err sinks.Failed) is = inr (refl, (totals, is))
  shows_written contents entries (Made parts) (Err sinks.Failed) is = absurd is
  shows_written contents entries (Tried trial) (Err sinks.Failed) is = absurd is
  shows_written contents entries (Legal count) (Err sinks.Failed) is = absurd is
  shows_written contents entries NoMemory (Err sinks.Failed) is = is
  shows_written contents entries (Refused fault) (Err sinks.Failed) is = is
  shows_written contents entries (OfJournal bad) (Err sinks.Failed) is = is
  shows_written contents entries (NotLegal breach) (Err sinks.Failed) is = is
  shows_written contents entries (NotOpened name) (Err sinks.Failed) is = is
  shows_written contents entries (NotRead name) (Err sinks.Failed) is = is
  shows_written contents entries (NotWritten name) (Err sinks.Failed) is = is
  shows_written contents entries (TooLong session) (Err sinks.Failed) is = is

  comes_written : (outcome : Outcome) (written : Result (Unit {0}) SinkFault) → HasStopped old new names outcome ⊎ HasGoneOn old new names outcome
      → HasStopped old new names (and_written outcome console written) ⊎ HasGoneOn old new names (and_written outcome console written)
  comes_written outcome written (inl h) = inl (record { why = stopped_written outcome written h.why; kept = h.kept })
  comes_written outcome written (inr h) =
      inr (record { contents = h.contents; base = h.base; entries = h.entries; journal = h.journal; legal = h.legal; shows = shows_written h.contents h.entries outcome written h.shows })

-- the files were replayed between the making of the console and its end
pub replay_told : (old mid late new : View) (names : ReplayNames) (outcome : Outcome) (taken : Option (List ℕ)) (status : ℕ) → AreOfReplay names → NoneFell old mid
    → IsKeptOrEmpty (old.held console) (mid.held console) → StaysBut console old.held mid.held → (Tells old → taken ≡ Some []) → HasReplayedFiles mid late names outcome → HasTold late new outcome taken status
    → HasReplayed old new names status
replay_told old mid late new names outcome taken status apart making here before empty files telling =
    let written = telling.written in
    let fell = both_fell old mid late making files.none_fell in
    let failed = λ (is : written ≡ Err sinks.Failed). rose_after (old.writes console) (late.writes console) (new.writes console) (fell.writes console) (telling.failed is) in
    record {
      outcome = and_written outcome console written;
      status_is = telling.status_is;
      files = record {
        none_fell = both_fell old late new fell telling.none_fell;
        cause = written_cause old new outcome console written (cause_later old late new outcome telling.none_fell (cause_after old mid late outcome making files.cause)) failed;
        others = λ name output other. telling.others name other ∙ files.others name output other ∙ before name other;
        comes = λ tells. comes_written old new names outcome written
            (comes_over old mid late new names apart before telling.others outcome (files.comes (made_tells console old mid tells here before)));
      };
      told = λ never tells opens writes.
          (let both = written_told outcome console written never (λ is. writes (failed is)) in
          telling.text both.0 ∙ ap (λ t. extended t (console_line outcome)) (empty tells) ∙ ap (λ o. Some (console_line o)) (sym both.1));
    }

-- the console couldn't be made
pub no_console : (old new : View) (names : ReplayNames) (fault : ShelfFault) (status : ℕ) → status ≡ status_of (of_open console fault) → NoneFell old new
    → (fault ≡ shelves.Failed → Rose (old.opens console) (new.opens console)) → StaysBut console old.held new.held → HasReplayed old new names status
no_console old new names shelves.Failed status is fell rose others =
    record {
      outcome = NotOpened console;
      status_is = is;
      files = record {
        none_fell = fell;
        cause = rose refl;
        others = λ name output other. others name other;
        comes = λ tells. inl (record { why = inl refl; kept = others });
      };
      told = λ never tells opens. absurd (opens (rose refl));
    }
no_console old new names shelves.Memory status is fell rose others =
    record {
      outcome = NoMemory;
      status_is = is;
      files = record {
        none_fell = fell;
        cause = tt;
        others = λ name output other. others name other;
        comes = λ tells. inl (record { why = tt; kept = others });
      };
      told = λ never. absurd (never refl);
    }

-- there was no memory for the words, and nothing was done
pub nothing_replayed : (shelf : View) (names : ReplayNames) → HasReplayed shelf shelf names 1
nothing_replayed shelf names = record { outcome = NoMemory; status_is = refl; files = no_memory shelf names; told = λ never. absurd (never refl) }
