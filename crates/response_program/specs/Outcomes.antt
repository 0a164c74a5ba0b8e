-- How a command comes out: its status, the console's line, and the cause of each fault.
use Rattle.std.specs.Prelude.{ℕ, ◌+◌, Bool, true, false, if◌then◌else◌, List, [], ◌∷◌, Option, Some, None, Result, Ok, Err, codes, decimal}
use Rattle.std.specs.Option.{option_or}
use Rattle.plan_schema.specs.Outside.{Rose}
use Rattle.plan_schema.specs.declared.outside.ShelfFault.{ShelfFault}
use Rattle.plan_schema.specs.declared.outside.ShelfFault.TheVariants as shelves
use Rattle.plan_schema.specs.declared.outside.SinkFault.{SinkFault}
use Rattle.plan_schema.specs.declared.outside.SinkFault.TheVariants as sinks
use Rattle.byte_lines.specs.declared.rounds.Served.{Served}
use Rattle.byte_lines.specs.declared.rounds.Served.TheVariants as ends
use Rattle.row_text.specs.Spelling.{words_text}
use Rattle.command_words.specs.Replies.{ended, room_word, rule_word}
use Rattle.plan_import.specs.declared.ImportFault.{ImportFault}
use Rattle.plan_import.specs.declared.ImportFault.TheVariants as imports
use Rattle.plan_journal.specs.declared.fault.JournalFault.{JournalFault}
use Rattle.plan_journal.specs.declared.fault.JournalFault.TheVariants as journals
use Rattle.plan_make.specs.declared.fault.MakeFault.{MakeFault}
use Rattle.plan_make.specs.declared.fault.MakeFault.TheVariants as makes
use Rattle.plan_walk.specs.declared.round.Tally.{Tally}
use Rattle.plan_audit.specs.declared.verdict.AuditRule.{AuditRule}
use Rattle.plan_audit.specs.declared.verdict.AuditRule.TheVariants as rules
use Rattle.plan_audit.specs.declared.verdict.Verdict.{Verdict}
use Rattle.plan_audit.specs.declared.verdict.Verdict.TheVariants as verdicts
use Rattle.plan_audit.specs.declared.auditing.AuditFault.{AuditFault}
use Rattle.plan_audit.specs.declared.auditing.AuditFault.TheVariants as audits
use Rattle.response_program.specs.declared.ending.Totals.{Totals}
use Rattle.response_program.specs.declared.ending.Trial.{Trial}
use Rattle.response_program.specs.declared.ending.Breach.{Breach}
use Rattle.response_program.specs.declared.ending.BadJournal.{BadJournal}
use Rattle.response_program.specs.declared.ending.BadJournal.TheVariants as bad_journals
use Rattle.response_program.specs.declared.ending.Ending.{Ending}
use Rattle.response_program.specs.declared.ending.Ending.TheVariants as endings
use Rattle.response_program.specs.Names.{Pair}
use Rattle.response_program.specs.Views.{View}

-- everything ended, with these totals; a base and an input of so many parts are made; such were made and served without files; a run is
-- legal, and its journal has so many entries; a run isn't legal; there was no memory, or no turn was left; the base is refused; the journal can't be replayed; a file can't be opened, read or written; the input
-- of the session with this number is too long
pub data Outcome : Type 0 where
  Done : Totals → Outcome
  Made : ℕ → Outcome
  Tried : Trial → Outcome
  Legal : ℕ → Outcome
  NotLegal : Breach → Outcome
  NoMemory : Outcome
  Refused : ImportFault → Outcome
  OfJournal : BadJournal → Outcome
  NotOpened : List ℕ → Outcome
  NotRead : List ℕ → Outcome
  NotWritten : List ℕ → Outcome
  TooLong : ℕ → Outcome

abbrev pub outcome_of : Ending → Outcome
outcome_of (endings.Done totals) = Done totals
outcome_of (endings.Made parts) = Made parts
outcome_of (endings.Tried trial) = Tried trial
outcome_of (endings.Legal entries) = Legal entries
outcome_of (endings.NotLegal breach) = NotLegal breach
outcome_of endings.Memory = NoMemory
outcome_of (endings.Base fault) = Refused fault
outcome_of (endings.Journal bad) = OfJournal bad
outcome_of (endings.Open name) = NotOpened name.now
outcome_of (endings.Read name) = NotRead name.now
outcome_of (endings.Write name) = NotWritten name.now
outcome_of (endings.Limit session) = TooLong session

-- the status of the program
abbrev pub status_of : Outcome → ℕ
status_of (Done totals) = 0
status_of (Made parts) = 0
status_of (Tried trial) = 0
status_of (Legal entries) = 0
status_of NoMemory = 1
status_of (Refused fault) = 3
status_of (NotOpened name) = 4
status_of (NotRead name) = 5
status_of (NotWritten name) = 6
status_of (TooLong session) = 7
status_of (OfJournal bad) = 9
status_of (NotLegal breach) = 9

-- why a base is refused
abbrev pub base_words : ImportFault → List (List ℕ)
base_words (imports.Row number fault) = codes "row" ∷ decimal number ∷ codes "field" ∷ decimal fault.field ∷ rule_word fault.rule ∷ []
base_words (imports.Twice number) = codes "twice" ∷ decimal number ∷ []
base_words (imports.Full room) = codes "full" ∷ room_word room ∷ []
base_words fault = codes "no-plan" ∷ []

-- why a journal can't be replayed
abbrev pub journal_words : BadJournal → List (List ℕ)
journal_words (bad_journals.Form line) = codes "journal-form" ∷ decimal line ∷ []
journal_words bad_journals.Large = codes "journal-large" ∷ []
journal_words (bad_journals.Refused entry) = codes "journal-refused" ∷ decimal entry ∷ []

-- what was netted, reused and dropped, where it is told
abbrev pub work_words : Option Tally → List (List ℕ)
work_words None = []
work_words (Some work) =
    codes "netted" ∷ decimal work.netted ∷ codes "reused" ∷ decimal work.reused ∷ codes "dropped" ∷ decimal work.dropped ∷ []

-- how many entries there are, and what was netted, reused and dropped, where it is told
abbrev pub totals_words : Totals → List (List ℕ)
totals_words totals = codes "entries" ∷ decimal totals.entries ∷ work_words totals.work

-- the word of a rule of legal runs
abbrev pub audit_word : AuditRule → List ℕ
audit_word rules.Short = codes "short"
audit_word rules.Form = codes "form"
audit_word rules.Point = codes "point"
audit_word rules.Entry = codes "entry"
audit_word rules.Answer = codes "answer"
audit_word rules.Extra = codes "extra"
audit_word rules.Lost = codes "lost"

-- the console's line
abbrev pub line_words : Outcome → List (List ℕ)
line_words (Done totals) = totals_words totals
line_words (Made parts) = codes "parts" ∷ decimal parts ∷ []
line_words (Tried trial) = codes "parts" ∷ decimal trial.parts ∷ codes "requests" ∷ decimal trial.requests ∷ totals_words trial.totals
line_words (Legal entries) = codes "legal" ∷ decimal entries ∷ []
line_words (NotLegal breach) = codes "not-legal" ∷ decimal breach.session ∷ decimal breach.line ∷ audit_word breach.rule ∷ []
line_words NoMemory = codes "memory" ∷ []
line_words (Refused fault) = codes "base" ∷ base_words fault
line_words (OfJournal bad) = journal_words bad
line_words (NotOpened name) = codes "open" ∷ name ∷ []
line_words (NotRead name) = codes "read" ∷ name ∷ []
line_words (NotWritten name) = codes "write" ∷ name ∷ []
line_words (TooLong session) = codes "limit" ∷ decimal session ∷ []

abbrev pub console_line : Outcome → List ℕ
console_line outcome = ended (words_text (line_words outcome))

-- a file that failed is told only where its count of that kind rose
abbrev pub HasCause : View → View → Outcome → Type 0
HasCause old new (NotOpened name) = Rose (old.opens name) (new.opens name)
HasCause old new (NotRead name) = Rose (old.reads name) (new.reads name)
HasCause old new (NotWritten name) = Rose (old.writes name) (new.writes name)
HasCause old new outcome = Unit {0}

-- a part of a shelf that can't be had
abbrev pub of_open : List ℕ → ShelfFault → Outcome
of_open name shelves.Failed = NotOpened name
of_open name shelves.Memory = NoMemory

-- a base that wasn't read
abbrev pub of_import : List ℕ → ImportFault → Outcome
of_import name imports.Read = NotRead name
of_import name imports.Memory = NoMemory
of_import name fault = Refused fault

-- a journal that wasn't read
abbrev pub of_journal : List ℕ → JournalFault → Outcome
of_journal name journals.Read = NotRead name
of_journal name (journals.Form line) = OfJournal (bad_journals.Form line)
of_journal name journals.Large = OfJournal bad_journals.Large
of_journal name journals.Memory = NoMemory

-- why no session behind this one is served: none where it ended
abbrev pub stop_of : Pair → ℕ → Served → Option Outcome
stop_of pair session (ends.Ended count) = None
stop_of pair session ends.ReadFault = Some (NotRead pair.input)
stop_of pair session ends.WriteFault = Some (NotWritten pair.output)
stop_of pair session ends.Limit = Some (TooLong session)
stop_of pair session served = Some NoMemory

-- the same, by how a session ended, where it was served
abbrev pub stop_by : Pair → ℕ → Option Served → Option Outcome
stop_by pair session None = None
stop_by pair session (Some served) = stop_of pair session served

abbrev pub is_memory : Option Outcome → Bool
is_memory (Some NoMemory) = true
is_memory stop = false

-- the first of two stops, but want of memory tops it
abbrev pub first_or_memory : Option Outcome → Option Outcome → Option Outcome
first_or_memory earlier later = if is_memory later then later else option_or earlier later

-- why not all sessions of some rounds ended, the first of which has this number: want of memory, where one of them met it, and else why the
-- first that didn't end didn't
abbrev pub stop_in_rounds : ℕ → List Pair → List (Option Served) → Option Outcome
stop_in_rounds session (pair ∷ pairs) (served ∷ more) = first_or_memory (stop_by pair session served) (stop_in_rounds (session + 1) pairs more)
stop_in_rounds session pairs more = None

-- the first fault stays, but want of memory tops all
abbrev pub first_of_two : Outcome → List ℕ → Outcome
first_of_two (Done totals) name = NotWritten name
first_of_two (Made parts) name = NotWritten name
first_of_two (Tried trial) name = NotWritten name
first_of_two (Legal entries) name = NotWritten name
first_of_two outcome name = outcome

abbrev pub and_written : Outcome → List ℕ → Result (Unit {0}) SinkFault → Outcome
and_written outcome name (Ok done) = outcome
and_written outcome name (Err sinks.Failed) = first_of_two outcome name
and_written outcome name (Err sinks.Memory) = NoMemory

-- what making a base and an input of so many parts under two names comes to, by what came of writing them
abbrev pub of_make : ℕ → List ℕ → List ℕ → Result (Unit {0}) MakeFault → Outcome
of_make parts base input (Ok done) = Made parts
of_make parts base input (Err (makes.Base fault)) = and_written (Made parts) base (Err fault)
of_make parts base input (Err (makes.Input fault)) = and_written (Made parts) input (Err fault)

-- what a verdict on a run with so many entries comes to
abbrev pub of_verdict : Verdict → ℕ → Outcome
of_verdict verdicts.Legal entries = Legal entries
of_verdict (verdicts.Journal entry) entries = OfJournal (bad_journals.Refused entry)
of_verdict (verdicts.NotLegal session line rule) entries = NotLegal (record { session = session; line = line; rule = rule })

-- a source that failed, if one did
abbrev pub of_unread : Option (List ℕ) → Outcome
of_unread None = NoMemory
of_unread (Some name) = NotRead name

-- what an audit of a run with so many entries comes to, where the first source that failed, if one did, bears this name
abbrev pub of_audit : Result Verdict AuditFault → ℕ → Option (List ℕ) → Outcome
of_audit (Ok verdict) entries unread = of_verdict verdict entries
of_audit (Err (audits.Limit session)) entries unread = TooLong session
of_audit (Err audits.Memory) entries unread = NoMemory
of_audit (Err audits.Read) entries unread = of_unread unread
