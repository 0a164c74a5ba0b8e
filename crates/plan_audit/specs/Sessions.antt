-- What going through a session comes to.
use Rattle.std.specs.Prelude.{◌≡◌, ◌≢◌, ℕ, true, false, List, [], Option, Some, None, Result, Ok, Err}
use Rattle.plan_schema.specs.declared.name.Name.{Name}
use Rattle.session_rules.specs.Requests.{Request, guest}
use Rattle.request_loop.specs.Serving.{is_past_limit}
use Rattle.plan_audit.specs.declared.verdict.AuditRule.TheVariants as rules
use Rattle.plan_audit.specs.declared.case.Judge.{Judge}
use Rattle.plan_audit.specs.declared.case.Found.{Found}
use Rattle.plan_audit.specs.declared.case.Found.TheVariants as found
use Rattle.plan_audit.specs.declared.session.Halt.{Halt}
use Rattle.plan_audit.specs.declared.session.SessionFault.{SessionFault}
use Rattle.plan_audit.specs.declared.session.SessionFault.TheVariants as session
use Rattle.plan_audit.specs.Ahead.{still}
use Rattle.plan_audit.specs.Inputs.{heard}
use Rattle.plan_audit.specs.Judging.{Seen, all_seen}
use Rattle.plan_audit.specs.Verdicts.{Pair, Breaks, IsLong, session_seen}
use Rattle.plan_audit.specs.Cases.{Terms, AreTerms, IsBehind, seen_by, HasSeen, IsFound, StaysSource}

-- a judge may be handed requests
pub record IsReady (t : Terms) (judge : Judge) : Type 0 where
  pub terms : AreTerms t
  pub behind : IsBehind t judge

-- the first three are a source's meanings: what is left, its count of faults and its label
module _ {K : Type 0} (left : K → Option (List ℕ)) (faults : K → ℕ) (label : K → List ℕ) (t : Terms) where
  -- what is still to be read of an output
  abbrev pub to_read : Judge → K → Option (List ℕ)
  to_read judge output = still judge.replies.ahead (left output)

  -- the reply to a request was read and judged, and it breaks no rule
  pub record IsStep (old new : Judge) (output output_then : K) (user : Name) (request : Request) : Type 0 where
    pub source : StaysSource faults label output output_then
    pub seen : HasSeen t old new user request (to_read old output) (to_read new output_then)

  -- no more replies are judged, and this is why
  abbrev pub IsHalted : Judge → K → K → Name → Request → Option Halt → Type 0
  IsHalted old output output_then user request None = ⊥
  IsHalted old output output_then user request (Some halt) = (halt.line ≡ request.line) × IsFound t old user request (to_read old output) (faults output) (faults output_then) halt.found

  pub record IsHalt (old : Judge) (output output_then : K) (user : Name) (request : Request) (halt : Option Halt) : Type 0 where
    pub source : StaysSource faults label output output_then
    pub halted : IsHalted old output output_then user request halt

-- the fault of a session that halted so
abbrev pub fault_found : ℕ → Found → SessionFault
fault_found line found.Read = session.Output
fault_found line found.Memory = session.Memory
fault_found line (found.Breaks rule) = session.Breaks line rule

abbrev pub fault_of : Option Halt → SessionFault
fault_of None = session.Memory
fault_of (Some halt) = fault_found halt.line halt.found

-- all that is heard of an input was answered by an output, of which this is left
pub record AreSeen (t : Terms) (old new : Judge) (input output : List ℕ) (after : Option (List ℕ)) : Type 0 where
  pub user : Name
  pub rest : List ℕ
  pub left : after ≡ Some rest
  pub all : all_seen t.base t.entries t.session t.floor t.ceiling (seen_by old guest output) (heard input) ≡ Ok (seen_by new user rest)

abbrev pub IsHeardTo : Terms → Judge → Judge → List ℕ → List ℕ → Option (List ℕ) → Result (Unit {0}) SessionFault → Type 0
IsHeardTo t old new input output after (Ok done) = (is_past_limit input ≡ false) × AreSeen t old new input output after
IsHeardTo t old new input output after (Err session.Limit) =
    (is_past_limit input ≡ true) × ((seen : Seen) × (all_seen t.base t.entries t.session t.floor t.ceiling (seen_by old guest output) (heard input) ≡ Ok seen))
IsHeardTo t old new input output after (Err (session.Breaks line rule)) =
    all_seen t.base t.entries t.session t.floor t.ceiling (seen_by old guest output) (heard input) ≡ Err (record { line = line; rule = rule })
IsHeardTo t old new input output after (Err fault) = Unit {0}

-- whether bytes follow the last reply
abbrev pub IsClosed : ℕ → List ℕ → Result (Unit {0}) SessionFault → Type 0
IsClosed line rest (Ok done) = rest ≡ []
IsClosed line rest (Err (session.Breaks at rule)) = (rest ≢ []) × (at ≡ line) × (rule ≡ rules.Extra)
IsClosed line rest (Err session.Limit) = ⊥
IsClosed line rest (Err fault) = Unit {0}

-- nothing is wrong with a session, and these are the points of its accepted changes
abbrev pub IsThrough : Terms → Pair → List ℕ → Type 0
IsThrough t pair points = session_seen t.base t.entries t.floor t.ceiling t.session pair ≡ Ok points

-- this is wrong with it
abbrev pub IsSessionFault : Terms → Pair → SessionFault → Type 0
IsSessionFault t pair session.Limit = session_seen t.base t.entries t.floor t.ceiling t.session pair ≡ Err (IsLong t.session)
IsSessionFault t pair (session.Breaks line rule) = session_seen t.base t.entries t.floor t.ceiling t.session pair ≡ Err (Breaks t.session (record { line = line; rule = rule }))
IsSessionFault t pair fault = Unit {0}
