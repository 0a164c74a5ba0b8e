-- The verdict on a run: its journal first, then its sessions in order, and then its entries.
use Rattle.std.specs.Prelude.{ℕ, ◌+◌, Bool, ◌==◌, List, [], ◌∷◌, ◌++◌, length, Option, Some, None, Result, Ok, Err, if◌then◌else◌}
use Rattle.std.specs.List.{list_any}
use Rattle.plan_schema.specs.declared.change.Entry.{Entry}
use Rattle.plan_schema.specs.declared.refusal.Refusal.{Refusal}
use Rattle.plan_schema.specs.Contents.{Contents}
use Rattle.scenario_rules.specs.Refused.{refused}
use Rattle.session_rules.specs.Runs.{entries_of}
use Rattle.request_loop.specs.Serving.{is_past_limit}
use Rattle.plan_audit.specs.declared.verdict.AuditRule.TheVariants as rules
use Rattle.plan_audit.specs.declared.verdict.Verdict.{Verdict}
use Rattle.plan_audit.specs.declared.verdict.Verdict.TheVariants as verdicts
use Rattle.plan_audit.specs.Inputs.{heard}
use Rattle.plan_audit.specs.Judging.{Seen, none_seen, Broken, if_sound, all_seen}

-- what a session was sent and what it wrote
pub record Pair : Type 0 where
  pub input : List ℕ
  pub output : List ℕ

-- the first fault of some sessions: a rule that is broken in one, or an input that is too long
pub data Fault : Type 0 where
  Breaks : ℕ → Broken → Fault
  IsLong : ℕ → Fault

-- what an audit comes to: a verdict, or that the input of a session is too long
pub data Finding : Type 0 where
  Judges : Verdict → Finding
  TooLong : ℕ → Finding

abbrev pub not_legal : ℕ → Broken → Finding
not_legal session broken = Judges (verdicts.NotLegal session broken.line broken.rule)

abbrev pub finding_of : Fault → Finding
finding_of (Breaks session broken) = not_legal session broken
finding_of (IsLong session) = TooLong session

-- sessions -----------------------------------------------------------------------------------------------------------------

-- bytes may follow the last reply; else these are the points of the accepted changes
abbrev pub behind_last : ℕ → Seen → List ℕ → Result (List ℕ) Fault
behind_last session seen [] = Ok seen.accepted
behind_last session seen (byte ∷ bytes) = Err (Breaks session (record { line = seen.line; rule = rules.Extra }))

-- the end of a session whose requests that are heard were all answered: its input may go on past the limits
abbrev pub at_its_end : ℕ → Bool → Seen → Result (List ℕ) Fault
at_its_end session is_long seen = if is_long then Err (IsLong session) else behind_last session seen seen.left

abbrev pub of_session : ℕ → List ℕ → Result Seen Broken → Result (List ℕ) Fault
of_session session input (Err broken) = Err (Breaks session broken)
of_session session input (Ok seen) = at_its_end session (is_past_limit input) seen

-- the points of some sessions, and then those of others
abbrev pub and_then_points : Result (List ℕ) Fault → Result (List ℕ) Fault → Result (List ℕ) Fault
and_then_points first second = if_sound first (λ points. if_sound second (λ more. Ok (points ++ more)))

module _ (base : Contents) (entries : List Entry) where
  -- a session, whose points lie from the floor to the ceiling
  unfoldable pub session_seen : ℕ → ℕ → ℕ → Pair → Result (List ℕ) Fault
  session_seen floor ceiling session pair =
      of_session session pair.input (all_seen base entries session floor ceiling (none_seen floor pair.output) (heard pair.input))

  -- the sessions of a round, numbered from `session` on
  unfoldable pub round_seen : ℕ → ℕ → ℕ → List Pair → Result (List ℕ) Fault
  round_seen floor ceiling session [] = Ok []
  round_seen floor ceiling session (pair ∷ pairs) = and_then_points (session_seen floor ceiling session pair) (round_seen floor ceiling (session + 1) pairs)

  -- rounds, the first session of which has the number `session`: the floor of a round is the number of entries of the sessions before it,
  -- and its ceiling that number and the entries of its own sessions
  unfoldable pub rounds_seen : ℕ → List (List Pair) → Result (List ℕ) Fault
  rounds_seen session [] = Ok []
  rounds_seen session (pairs ∷ rounds) =
      and_then_points (round_seen (entries_of entries 0 session) (entries_of entries 0 (session + length pairs)) session pairs)
      (rounds_seen (session + length pairs) rounds)

-- entries ------------------------------------------------------------------------------------------------------------------

-- this number where something is refused, else a later one
abbrev pub number_or_later : Option Refusal → ℕ → Option ℕ → Option ℕ
number_or_later None number later = later
number_or_later (Some refusal) number later = Some number

-- the first entry that is refused after those before it, by its number from 1
unfoldable pub first_refused : Contents → List Entry → List Entry → Option ℕ
first_refused base done [] = None
first_refused base done (entry ∷ entries) = number_or_later (refused base done entry.user entry.change) (length done + 1) (first_refused base (done ++ entry ∷ []) entries)

-- the first entry, of those numbered from `number` on, whose number isn't among these points
unfoldable pub first_lost : List ℕ → ℕ → List Entry → Option Entry
first_lost points number [] = None
first_lost points number (entry ∷ entries) = if list_any (λ point. point == number) points then first_lost points (number + 1) entries else Some entry

abbrev pub judged_last : Option Entry → Finding
judged_last None = Judges verdicts.Legal
judged_last (Some entry) = not_legal entry.session (record { line = entry.line; rule = rules.Lost })

abbrev pub of_sessions : List Entry → Result (List ℕ) Fault → Finding
of_sessions entries (Err fault) = finding_of fault
of_sessions entries (Ok points) = judged_last (first_lost points 1 entries)

abbrev pub of_journal : Option ℕ → Finding → Finding
of_journal (Some number) finding = Judges (verdicts.Journal number)
of_journal None finding = finding

-- what an audit of a run comes to: the first entry that is refused, the first session with its first fault, the first entry that no
-- accepted reply printed; else the run is legal
unfoldable pub audited : Contents → List Entry → List (List Pair) → Finding
audited base entries rounds = of_journal (first_refused base [] entries) (of_sessions entries (rounds_seen base entries 1 rounds))
