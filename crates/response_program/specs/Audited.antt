-- What an audit comes to: the verdict on a run, from its files. The promise that its users rely on.
use Rattle.std.specs.Prelude.{◌≡◌, ◌≢◌, ◌⊎◌, ℕ, List, [], ◌∷◌, length, Some}
use Rattle.plan_schema.specs.declared.change.Entry.{Entry}
use Rattle.plan_schema.specs.Contents.{Contents}
use Rattle.plan_schema.specs.Outside.{Rose, StaysBut}
use Rattle.plan_audit.specs.Verdicts.{Finding, Judges, TooLong, audited}
use Rattle.plan_audit.specs.Verdicts as verdicts
use Rattle.plan_audit.specs.declared.verdict.Verdict.TheVariants as verdict
use Rattle.plan_audit.specs.Laws.{IsLegalRun}
use Rattle.response_program.specs.declared.ending.BadJournal.{BadJournal}
use Rattle.response_program.specs.declared.ending.BadJournal.TheVariants as bad_journals
use Rattle.response_program.specs.Names.{Pair, Names, console}
use Rattle.response_program.specs.Views.{View, NoneFell}
use Rattle.response_program.specs.Outcomes.{Outcome, Legal, NotLegal, NoMemory, Refused, OfJournal, NotOpened, NotRead, NotWritten, HasCause, status_of, console_line}
use Rattle.response_program.specs.Outcomes as outcomes
use Rattle.response_program.specs.Runs.{Tells}
use Rattle.response_program.specs.Histories.{HoldsBase, HoldsNoBase, HoldsJournal, HoldsNoJournal}
use Rattle.response_program.specs.Written.{IsOfPairs}

-- what the files of pairs hold: what each session was sent, and what it wrote
abbrev pub AreHeldTexts : View → List Pair → List verdicts.Pair → Type 0
AreHeldTexts shelf [] [] = Unit {0}
AreHeldTexts shelf (pair ∷ pairs) (texts ∷ more) = (shelf.held pair.input ≡ Some texts.input) × (shelf.held pair.output ≡ Some texts.output) × AreHeldTexts shelf pairs more
AreHeldTexts shelf pairs texts = ⊥

abbrev pub AreHeldRounds : View → List (List Pair) → List (List verdicts.Pair) → Type 0
AreHeldRounds shelf [] [] = Unit {0}
AreHeldRounds shelf (round ∷ rounds) (texts ∷ more) = AreHeldTexts shelf round texts × AreHeldRounds shelf rounds more
AreHeldRounds shelf rounds texts = ⊥

module _ (shelf : View) (names : Names) where
  -- what the files hold, and what the definitions find in it
  pub record HasFound (finding : Finding) : Type 0 where
    pub contents : Contents
    pub base : HoldsBase shelf names.base contents
    pub entries : List Entry
    pub journal : HoldsJournal shelf names.journal entries
    pub rounds : List (List verdicts.Pair)
    pub held : AreHeldRounds shelf names.rounds rounds
    pub found : audited contents entries rounds ≡ finding

  -- the run is legal for the entries of its journal, of which there are so many, and none of its inputs is too long
  pub record IsFoundLegal (count : ℕ) : Type 0 where
    pub run : HasFound (Judges verdict.Legal)
    pub legal : IsLegalRun run.contents run.entries run.rounds
    pub counted : count ≡ length run.entries

  -- why a journal isn't that of a legal history
  abbrev pub IsFoundBad : BadJournal → Type 0
  IsFoundBad (bad_journals.Refused entry) = HasFound (Judges (verdict.Journal entry))
  IsFoundBad bad = ((contents : Contents) × HoldsBase shelf names.base contents) × HoldsNoJournal shelf names.journal bad

  -- a name of one of its files
  abbrev pub IsOfRun : List ℕ → Type 0
  IsOfRun name = ((name ≡ names.base) ⊎ (name ≡ names.journal)) ⊎ IsOfPairs names.pairs name

  -- what it comes to, by the outcome. It may also be that the console couldn't be made, or that it failed when the run was found legal.
  abbrev pub Audits : Outcome → Type 0
  Audits (Legal count) = IsFoundLegal count
  Audits (NotLegal breach) = HasFound (Judges (verdict.NotLegal breach.session breach.line breach.rule))
  Audits NoMemory = Unit {0}
  Audits (Refused fault) = HoldsNoBase shelf names.base fault
  Audits (OfJournal bad) = IsFoundBad bad
  Audits (NotOpened name) = (name ≡ console) ⊎ IsOfRun name
  Audits (NotRead name) = IsOfRun name
  Audits (NotWritten name) = (name ≡ console) × ((count : ℕ) × IsFoundLegal count)
  Audits (outcomes.TooLong session) = HasFound (TooLong session)
  Audits outcome = ⊥

module _ (old new : View) (names : Names) where
  -- the files were read and judged, as far as that could be
  pub record HasAuditedFiles (outcome : Outcome) : Type 0 where
    pub none_fell : NoneFell old new
    pub cause : HasCause old new outcome
    pub others : StaysBut console old.held new.held
    pub comes : Tells old → Audits old names outcome

  -- The program audited a run and answered a status. No count of faults fell, and a file that failed is told only where its count of that
  -- kind rose. Everything but the console is as before. What is said of files is said on a shelf that tells what it holds.
  -- Status 0: the base reads to contents, the journal is that of a legal history of changes to them, of whose length the console tells, and
  -- the outputs are those of a legal run with this history, whose sessions, in the rounds that the words tell, were sent the inputs; none of
  -- these is too long.
  -- Status 9: the first fault of the run is told, as the definition of an audit finds it in the files held: the journal's text is no
  -- journal's, or has too many bytes; an entry is refused, the first of which is told; or a rule is broken, and the session, the line of its
  -- request and the rule are told. Status 7: before any of these the input of the session told was found too long.
  -- Status 3: the base is refused for its first fault. Statuses 4 and 5: a file couldn't be opened or read.
  -- But for want of memory the console holds the line of the outcome, unless the console itself failed.
  pub record HasAudited (status : ℕ) : Type 0 where
    pub outcome : Outcome
    pub status_is : status ≡ status_of outcome
    pub files : HasAuditedFiles outcome
    pub told : outcome ≢ NoMemory → Tells old → (Rose (old.opens console) (new.opens console) → ⊥) → (Rose (old.writes console) (new.writes console) → ⊥)
        → new.held console ≡ Some (console_line outcome)
