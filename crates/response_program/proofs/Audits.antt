-- An audit: what its files hold, and what the console adds.
use Rattle.std.proofs.Common.{◌≡◌, ℕ, List, [], ◌∷◌, Option, Some, None, Result, Ok, Err, length, refl, sym, ap, subst, ◌∙◌, inl, inr}
use Rattle.std.specs.Prelude.{IsSome, IfSome, option_map}
use Rattle.std.specs.List.{AllByRecursion}
use Rattle.plan_schema.specs.declared.change.Entry.{Entry}
use Rattle.plan_schema.specs.declared.outside.SinkFault.{SinkFault}
use Rattle.plan_schema.specs.declared.outside.SinkFault.TheVariants as sinks
use Rattle.plan_schema.specs.declared.outside.ShelfFault.{ShelfFault}
use Rattle.plan_schema.specs.declared.outside.ShelfFault.TheVariants as shelves
use Rattle.plan_schema.specs.Contents.{Contents}
use Rattle.plan_schema.specs.Outside.{Rose, IsKeptOrEmpty, StaysBut, Stays, extended}
use Rattle.plan_schema.proofs.Writes.{rose_after}
use Rattle.scenario_rules.specs.Journal.{AreSound}
use Rattle.program_words.specs.Rounds.{all_pairs}
use Rattle.plan_audit.specs.Verdicts.{Finding, Judges, audited}
use Rattle.plan_audit.specs.Verdicts as verdicts
use Rattle.plan_audit.specs.Audits.{ComesTo}
use Rattle.plan_audit.specs.Laws.{JudgedLegalIsLegal}
use Rattle.plan_audit.specs.declared.verdict.Verdict.{Verdict}
use Rattle.plan_audit.specs.declared.verdict.Verdict.TheVariants as verdict
use Rattle.plan_audit.specs.declared.auditing.AuditFault.{AuditFault}
use Rattle.plan_audit.specs.declared.auditing.AuditFault.TheVariants as faults
use Rattle.response_program.specs.declared.ending.BadJournal.{BadJournal}
use Rattle.response_program.specs.declared.ending.BadJournal.TheVariants as bad_journals
use Rattle.response_program.specs.Names.{Pair, Names, IsApart, NoConsole, console}
use Rattle.response_program.specs.Views.{View, NoneFell}
use Rattle.response_program.specs.Outcomes.{Outcome, Done, Made, Tried, Legal, NotLegal, OfJournal, NoMemory, Refused, NotOpened, NotRead, NotWritten, TooLong, HasCause, status_of, console_line, of_open, of_unread, and_written, of_audit}
use Rattle.response_program.specs.Runs.{Tells}
use Rattle.response_program.specs.Console.{HasTold}
use Rattle.response_program.specs.Histories.{HoldsBase, HoldsJournal, HoldsNoJournal, IsNoBaseFor, IsNoJournalFor, IsNoHistory, IsHistoryUnread}
use Rattle.response_program.specs.Written.{AreUnopened, IsUnreadOf}
use Rattle.response_program.specs.Audited.{AreHeldTexts, AreHeldRounds, HasFound, IsFoundLegal, IsFoundBad, Audits, HasAuditedFiles, HasAudited}
use Rattle.response_program.proofs.Chains.{same_fell, both_fell, cause_later, cause_after}
use Rattle.response_program.proofs.Endings.{written_cause, written_told}
use Rattle.response_program.proofs.Headline.{made_tells}
use Rattle.response_program.proofs.Named.{all_front, all_behind}

-- over a shelf that holds the same but for the console ----------------------------------------------------------------------------

module _ (old mid : View) (names : Names) (apart : NoConsole names) (same : StaysBut console old.held mid.held) where
  base_over : (contents : Contents) → HoldsBase mid names.base contents → HoldsBase old names.base contents
  base_over contents h = record { base = h.base; held = sym (same names.base apart.base) ∙ h.held; read = h.read }

  texts_over : (pairs : List Pair) (texts : List verdicts.Pair) → AllByRecursion (IsApart console) pairs → AreHeldTexts mid pairs texts → AreHeldTexts old pairs texts
  texts_over [] [] all h = tt
  texts_over (pair ∷ pairs) (one ∷ texts) all h = (sym (same pair.input all.0.0) ∙ h.0, sym (same pair.output all.0.1) ∙ h.1, texts_over pairs texts all.1 h.2)
  texts_over [] (one ∷ texts) all h = absurd h
  texts_over (pair ∷ pairs) [] all h = absurd h

  rounds_over : (rounds : List (List Pair)) (texts : List (List verdicts.Pair)) → AllByRecursion (IsApart console) (all_pairs rounds) → AreHeldRounds mid rounds texts → AreHeldRounds old rounds texts
  rounds_over [] [] all h = tt
  rounds_over (round ∷ rounds) (one ∷ texts) all h =
      (texts_over round one (all_front (IsApart console) round (all_pairs rounds) all) h.0, rounds_over rounds texts (all_behind (IsApart console) round (all_pairs rounds) all) h.1)
  rounds_over [] (one ∷ texts) all h = absurd h
  rounds_over (round ∷ rounds) [] all h = absurd h

  abbrev found_over : (finding : Finding) → HasFound mid names finding → HasFound old names finding
  found_over finding h =
      record {
        contents = h.contents;
        base = base_over h.contents h.base;
        entries = h.entries;
        journal = record { journal = h.journal.journal; held = sym (same names.journal apart.journal) ∙ h.journal.held; text = h.journal.text };
        rounds = h.rounds;
        held = rounds_over names.rounds h.rounds apart.pairs h.held;
        found = h.found;
      }

  legal_over : (count : ℕ) → IsFoundLegal mid names count → IsFoundLegal old names count
  legal_over count h = record { run = found_over (Judges verdict.Legal) h.run; legal = h.legal; counted = h.counted }

  no_journal_over : (bad : BadJournal) → HoldsNoJournal mid names.journal bad → HoldsNoJournal old names.journal bad
  no_journal_over bad h = record { journal = h.journal; held = sym (same names.journal apart.journal) ∙ h.held; why = h.why }

  bad_over : (bad : BadJournal) → IsFoundBad mid names bad → IsFoundBad old names bad
  bad_over (bad_journals.Refused entry) h = found_over (Judges (verdict.Journal entry)) h
  bad_over (bad_journals.Form line) h = ((h.0.0, base_over h.0.0 h.0.1), no_journal_over (bad_journals.Form line) h.1)
  bad_over bad_journals.Large h = ((h.0.0, base_over h.0.0 h.0.1), no_journal_over bad_journals.Large h.1)

  pub audits_over : (outcome : Outcome) → Audits mid names outcome → Audits old names outcome
  audits_over (Done totals) h = absurd h
  audits_over (Made parts) h = absurd h
  audits_over (Tried trial) h = absurd h
  audits_over (Legal count) h = legal_over count h
  audits_over (NotLegal breach) h = found_over (Judges (verdict.NotLegal breach.session breach.line breach.rule)) h
  audits_over NoMemory h = tt
  audits_over (Refused fault) h = record { base = h.base; held = sym (same names.base apart.base) ∙ h.held; read = h.read }
  audits_over (OfJournal bad) h = bad_over bad h
  audits_over (NotOpened name) h = h
  audits_over (NotRead name) h = h
  audits_over (NotWritten name) h = (h.0, (h.1.0, legal_over h.1.0 h.1.1))
  audits_over (TooLong session) h = found_over (verdicts.TooLong session) h

-- steps before the verdict --------------------------------------------------------------------------------------------------------

-- more follows behind what was read or opened
pub audits_on : (old mid new : View) (names : Names) (outcome : Outcome) → NoConsole names → NoneFell old mid → Stays old.held mid.held → HasAuditedFiles mid new names outcome → HasAuditedFiles old new names outcome
audits_on old mid new names outcome apart fell holds h =
    record {
      none_fell = both_fell old mid new fell h.none_fell;
      cause = cause_after old mid new outcome fell h.cause;
      others = λ name other. h.others name other ∙ holds name;
      comes = λ tells. audits_over old mid names apart (λ name other. holds name) outcome (h.comes (λ name. subst (λ held. IsSome held) (sym (holds name)) (tells name)));
    }

-- it went no further, on a shelf that holds what it held
pub audit_stops : (old new : View) (names : Names) (outcome : Outcome) → NoneFell old new → Stays old.held new.held → HasCause old new outcome → (Tells old → Audits old names outcome) → HasAuditedFiles old new names outcome
audit_stops old new names outcome fell holds cause why = record { none_fell = fell; cause = cause; others = λ name other. holds name; comes = why }

base_unread : (shelf : View) (names : Names) (outcome : Outcome) → IsNoBaseFor shelf names.base outcome → Audits shelf names outcome
base_unread shelf names (Done totals) h = absurd h
base_unread shelf names (Made parts) h = absurd h
base_unread shelf names (Tried trial) h = absurd h
base_unread shelf names (Legal count) h = absurd h
base_unread shelf names (NotLegal breach) h = absurd h
base_unread shelf names NoMemory h = tt
base_unread shelf names (Refused fault) h = h
base_unread shelf names (OfJournal bad) h = absurd h
base_unread shelf names (NotOpened name) h = inr (inl (inl h))
base_unread shelf names (NotRead name) h = inl (inl h)
base_unread shelf names (NotWritten name) h = absurd h
base_unread shelf names (TooLong session) h = absurd h

bad_found : (shelf : View) (names : Names) (contents : Contents) (bad : BadJournal) → HoldsBase shelf names.base contents → HoldsNoJournal shelf names.journal bad → IsFoundBad shelf names bad
bad_found shelf names contents (bad_journals.Refused entry) base h = absurd h.why
bad_found shelf names contents (bad_journals.Form line) base h = ((contents, base), h)
bad_found shelf names contents bad_journals.Large base h = ((contents, base), h)

journal_unread : (shelf : View) (names : Names) (contents : Contents) (outcome : Outcome) → HoldsBase shelf names.base contents → IsNoJournalFor shelf names.journal outcome → Audits shelf names outcome
journal_unread shelf names contents (Done totals) base h = absurd h
journal_unread shelf names contents (Made parts) base h = absurd h
journal_unread shelf names contents (Tried trial) base h = absurd h
journal_unread shelf names contents (Legal count) base h = absurd h
journal_unread shelf names contents (NotLegal breach) base h = absurd h
journal_unread shelf names contents NoMemory base h = tt
journal_unread shelf names contents (Refused fault) base h = absurd h
journal_unread shelf names contents (OfJournal bad) base h = bad_found shelf names contents bad base h
journal_unread shelf names contents (NotOpened name) base h = inr (inl (inr h))
journal_unread shelf names contents (NotRead name) base h = inl (inr h)
journal_unread shelf names contents (NotWritten name) base h = absurd h
journal_unread shelf names contents (TooLong session) base h = absurd h

either_unread : (shelf : View) (names : Names) (outcome : Outcome) → IsNoHistory shelf names.base names.journal outcome → Audits shelf names outcome
either_unread shelf names outcome (inl h) = base_unread shelf names outcome h
either_unread shelf names outcome (inr h) = journal_unread shelf names h.0.0 outcome h.0.1 h.1

pub no_history : (old new : View) (names : Names) (outcome : Outcome) → NoneFell old new → Stays old.held new.held → HasCause old new outcome → IsHistoryUnread old names.base names.journal outcome → HasAuditedFiles old new names outcome
no_history old new names outcome fell holds cause why = audit_stops old new names outcome fell holds cause (λ tells. either_unread old names outcome (why tells))

pub unopened : (shelf : View) (names : Names) (outcome : Outcome) → AreUnopened names.pairs outcome → Audits shelf names outcome
unopened shelf names (Done totals) h = absurd h
unopened shelf names (Made parts) h = absurd h
unopened shelf names (Tried trial) h = absurd h
unopened shelf names (Legal count) h = absurd h
unopened shelf names (NotLegal breach) h = absurd h
unopened shelf names NoMemory h = tt
unopened shelf names (Refused fault) h = absurd h
unopened shelf names (OfJournal bad) h = absurd h
unopened shelf names (NotOpened name) h = inr (inr h)
unopened shelf names (NotRead name) h = absurd h
unopened shelf names (NotWritten name) h = absurd h
unopened shelf names (TooLong session) h = absurd h

-- the verdict -----------------------------------------------------------------------------------------------------------------------

-- what holds of a name that is told holds of its text
pub told_name : {N : Type 0} (text : N → List ℕ) (unread : Option N) (P : List ℕ → Type 0) → IfSome unread (λ name. P (text name)) → IfSome (option_map text unread) P
told_name text None P h = tt
told_name text (Some name) P h = h

module _ (old new : View) (names : Names) where
  -- the files that were read, and what the definitions find in them
  pub record AreRead (contents : Contents) (entries : List Entry) (rounds : List (List verdicts.Pair)) : Type 0 where
    pub base : HoldsBase old names.base contents
    pub journal : HoldsJournal old names.journal entries
    pub held : AreHeldRounds old names.rounds rounds

  abbrev found_as : (contents : Contents) (entries : List Entry) (rounds : List (List verdicts.Pair)) (finding : Finding) → AreRead contents entries rounds → audited contents entries rounds ≡ finding → HasFound old names finding
  found_as contents entries rounds finding h is = record { contents = contents; base = h.base; entries = entries; journal = h.journal; rounds = rounds; held = h.held; found = is }

  unread_as : (unread : Option (List ℕ)) → IfSome unread (IsUnreadOf old new names.pairs) → Audits old names (of_unread unread)
  unread_as None h = tt
  unread_as (Some name) h = inr h.which

  pub comes_to : (contents : Contents) (entries : List Entry) (rounds : List (List verdicts.Pair)) (found : Result Verdict AuditFault) (unread : Option (List ℕ)) → JudgedLegalIsLegal → AreSound entries → AreRead contents entries rounds
      → ComesTo (audited contents entries rounds) found → IfSome unread (IsUnreadOf old new names.pairs) → Audits old names (of_audit found (length entries) unread)
  comes_to contents entries rounds (Ok verdict.Legal) unread law sound h is which =
      record { run = found_as contents entries rounds (Judges verdict.Legal) h is; legal = law contents entries rounds sound is; counted = refl }
  comes_to contents entries rounds (Ok (verdict.Journal entry)) unread law sound h is which = found_as contents entries rounds (Judges (verdict.Journal entry)) h is
  comes_to contents entries rounds (Ok (verdict.NotLegal session line rule)) unread law sound h is which = found_as contents entries rounds (Judges (verdict.NotLegal session line rule)) h is
  comes_to contents entries rounds (Err (faults.Limit session)) unread law sound h is which = found_as contents entries rounds (verdicts.TooLong session) h is
  comes_to contents entries rounds (Err faults.Memory) unread law sound h is which = tt
  comes_to contents entries rounds (Err faults.Read) unread law sound h is which = unread_as unread which

  unread_cause : (unread : Option (List ℕ)) → IfSome unread (IsUnreadOf old new names.pairs) → HasCause old new (of_unread unread)
  unread_cause None h = tt
  unread_cause (Some name) h = h.rose

  pub audit_cause : (found : Result Verdict AuditFault) (count : ℕ) (unread : Option (List ℕ)) → IfSome unread (IsUnreadOf old new names.pairs) → HasCause old new (of_audit found count unread)
  audit_cause (Ok verdict.Legal) count unread which = tt
  audit_cause (Ok (verdict.Journal entry)) count unread which = tt
  audit_cause (Ok (verdict.NotLegal session line rule)) count unread which = tt
  audit_cause (Err (faults.Limit session)) count unread which = tt
  audit_cause (Err faults.Memory) count unread which = tt
  audit_cause (Err faults.Read) count unread which = unread_cause unread which

-- the console -------------------------------------------------------------------------------------------------------------------------

-- what an audit came to stays so, whatever the console took of its line
audits_written : (shelf : View) (names : Names) (outcome : Outcome) (written : Result (Unit {0}) SinkFault) → Audits shelf names outcome → Audits shelf names (and_written outcome console written)
audits_written shelf names outcome (Ok done) is = is
audits_written shelf names outcome (Err sinks.Memory) is = tt
audits_written shelf names (Done totals) (Err sinks.Failed) is = absurd is
audits_written shelf names (Made parts) (Err sinks.Failed) is = absurd is
audits_written shelf names (Tried trial) (Err sinks.Failed) is = absurd is
audits_written shelf names (Legal count) (Err sinks.Failed) is = (refl, (count, is))
audits_written shelf names (NotLegal breach) (Err sinks.Failed) is = is
audits_written shelf names NoMemory (Err sinks.Failed) is = is
audits_written shelf names (Refused fault) (Err sinks.Failed) is = is
audits_written shelf names (OfJournal bad) (Err sinks.Failed) is = is
audits_written shelf names (NotOpened name) (Err sinks.Failed) is = is
audits_written shelf names (NotRead name) (Err sinks.Failed) is = is
audits_written shelf names (NotWritten name) (Err sinks.Failed) is = is
audits_written shelf names (TooLong session) (Err sinks.Failed) is = is

-- the files were audited between the making of the console and its end
pub audit_told : (old mid late new : View) (names : Names) (outcome : Outcome) (taken : Option (List ℕ)) (status : ℕ) → NoConsole names → NoneFell old mid → IsKeptOrEmpty (old.held console) (mid.held console)
    → StaysBut console old.held mid.held → (Tells old → taken ≡ Some []) → HasAuditedFiles mid late names outcome → HasTold late new outcome taken status → HasAudited old new names status
audit_told old mid late new names outcome taken status apart making here before empty files telling =
    let written = telling.written in
    let fell = both_fell old mid late making files.none_fell in
    let failed = λ (is : written ≡ Err sinks.Failed). rose_after (old.writes console) (late.writes console) (new.writes console) (fell.writes console) (telling.failed is) in
    record {
      outcome = and_written outcome console written;
      status_is = telling.status_is;
      files = record {
        none_fell = both_fell old late new fell telling.none_fell;
        cause = written_cause old new outcome console written (cause_later old late new outcome telling.none_fell (cause_after old mid late outcome making files.cause)) failed;
        others = λ name other. telling.others name other ∙ files.others name other ∙ before name other;
        comes = λ tells. audits_written old names outcome written (audits_over old mid names apart before outcome (files.comes (made_tells console old mid tells here before)));
      };
      told = λ never tells opens writes.
          (let both = written_told outcome console written never (λ is. writes (failed is)) in
          telling.text both.0 ∙ ap (λ t. extended t (console_line outcome)) (empty tells) ∙ ap (λ o. Some (console_line o)) (sym both.1));
    }

-- the console couldn't be made
pub no_console : (old new : View) (names : Names) (fault : ShelfFault) (status : ℕ) → status ≡ status_of (of_open console fault) → NoneFell old new
    → (fault ≡ shelves.Failed → Rose (old.opens console) (new.opens console)) → StaysBut console old.held new.held → HasAudited old new names status
no_console old new names shelves.Failed status is fell rose others =
    record {
      outcome = NotOpened console;
      status_is = is;
      files = record { none_fell = fell; cause = rose refl; others = others; comes = λ tells. inl refl };
      told = λ never tells opens. absurd (opens (rose refl));
    }
no_console old new names shelves.Memory status is fell rose others =
    record {
      outcome = NoMemory;
      status_is = is;
      files = record { none_fell = fell; cause = tt; others = others; comes = λ tells. tt };
      told = λ never. absurd (never refl);
    }

-- there was no memory for the words, and nothing was done
pub nothing_audited : (shelf : View) (names : Names) → HasAudited shelf shelf names 1
nothing_audited shelf names =
    record {
      outcome = NoMemory;
      status_is = refl;
      files = audit_stops shelf shelf names NoMemory (same_fell shelf) (λ name. refl) tt (λ tells. tt);
      told = λ never. absurd (never refl);
    }
