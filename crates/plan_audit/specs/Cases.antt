-- A session's case, and the judge of its replies.
use Rattle.std.specs.Prelude.{◌≡◌, ℕ, ◌≤◌, true, not, List, length, Option, Some, None, Result, Ok, Err, if◌then◌else◌}
use Rattle.plan_schema.specs.declared.name.Name.{Name}
use Rattle.plan_schema.specs.declared.change.Entry.{Entry}
use Rattle.plan_schema.specs.Contents.{Contents}
use Rattle.plan_schema.specs.Outside.{Rose}
use Rattle.command_words.specs.Forms.{Form}
use Rattle.scenario_rules.specs.Journal.{AreSound, AreAccepted}
use Rattle.session_rules.specs.Requests.{Request, user_after}
use Rattle.plan_audit.specs.declared.ahead.ReplyFault.{ReplyFault}
use Rattle.plan_audit.specs.declared.ahead.ReplyFault.TheVariants as faults
use Rattle.plan_audit.specs.declared.case.Case.{Case}
use Rattle.plan_audit.specs.declared.case.Judge.{Judge}
use Rattle.plan_audit.specs.declared.case.Found.{Found}
use Rattle.plan_audit.specs.declared.case.Found.TheVariants as found
use Rattle.plan_audit.specs.declared.form.ReplyForm.{ReplyForm}
use Rattle.plan_audit.specs.declared.verdict.AuditRule.{AuditRule}
use Rattle.plan_audit.specs.declared.verdict.AuditRule.TheVariants as rules
use Rattle.plan_audit.specs.Judging.{Seen, Broken, seen_after, is_in_order, has_entry, is_right, point_in}
use Rattle.plan_audit.specs.Replies.{form_for, TookReply}
use Rattle.plan_audit.specs.Standing.{StandsAt}

-- a case in plain data
pub record Terms : Type 0 where
  pub base : Contents
  pub entries : List Entry
  pub session : ℕ
  pub floor : ℕ
  pub ceiling : ℕ

abbrev pub terms_of : Case → Terms
terms_of c = record { base = c.base.now; entries = c.entries.now; session = c.session; floor = c.floor; ceiling = c.ceiling }

-- the terms of a session: the entries are those of a legal journal, and its floor and ceiling are numbers of them
pub record AreTerms (t : Terms) : Type 0 where
  pub sound : AreSound t.entries
  pub accepted : AreAccepted t.base t.entries
  pub low : t.floor ≤ t.ceiling
  pub within : t.ceiling ≤ length t.entries

-- the judge's book stands at a point in the journal, at or below the last one that was printed, which isn't above the ceiling
pub record IsBehind (t : Terms) (judge : Judge) : Type 0 where
  pub point : ℕ
  pub stands : StandsAt t.base t.entries judge.book point
  pub behind : point ≤ judge.last
  pub below : judge.last ≤ t.ceiling

abbrev pub found_for : ReplyFault → Found
found_for faults.Read = found.Read
found_for faults.Memory = found.Memory

-- a judge's reader of replies and its book stay
pub record JudgeKeeps (old new : Judge) : Type 0 where
  pub replies : new.replies ≡ old.replies
  pub book : new.book ≡ old.book

-- all but its reader of replies stays
pub record JudgeStays (old new : Judge) : Type 0 where
  pub book : new.book ≡ old.book
  pub last : new.last ≡ old.last
  pub line : new.line ≡ old.line
  pub accepted : new.accepted ≡ old.accepted

-- all but its reader of replies and the last point stays
pub record JudgeWaits (old new : Judge) : Type 0 where
  pub book : new.book ≡ old.book
  pub line : new.line ≡ old.line
  pub accepted : new.accepted ≡ old.accepted

-- all but its book stays
pub record JudgeKeepsAll (old new : Judge) : Type 0 where
  pub replies : new.replies ≡ old.replies
  pub last : new.last ≡ old.last
  pub line : new.line ≡ old.line
  pub accepted : new.accepted ≡ old.accepted

-- the judge as the definitions have it, where this user speaks and this is left of the output
abbrev pub seen_by : Judge → Name → List ℕ → Seen
seen_by judge user left = record { last = judge.last; user = user; left = left; line = judge.line; accepted = judge.accepted.items }

-- a reply's rule behind that of its point: an accepted change that wasn't entered, or another reply than the right one
abbrev pub rule_behind : Terms → Name → Request → Form → List ℕ → Option AuditRule
rule_behind t user request form text =
    if not (has_entry t.base t.entries t.session t.floor request.line user request.wish form) then Some rules.Entry
    else (if not (is_right t.base t.entries t.session user request.wish form text) then Some rules.Answer else None)

abbrev pub seen_next : Terms → Seen → Request → Result Seen Broken
seen_next t seen request = seen_after t.base t.entries t.session t.floor t.ceiling seen request

-- the reply to a request was judged, and it breaks no rule; where the output tells, this was and this is left of it
abbrev pub HasSeen : Terms → Judge → Judge → Name → Request → Option (List ℕ) → Option (List ℕ) → Type 0
HasSeen t old new user request before after =
    (all : List ℕ) → before ≡ Some all → (rest : List ℕ) × (after ≡ Some rest) × (seen_next t (seen_by old user all) request ≡ Ok (seen_by new (user_after user request.wish) rest))

-- it breaks a rule, or there was no memory, or the source of the output failed, whose count of faults rose
abbrev pub IsFound : Terms → Judge → Name → Request → Option (List ℕ) → ℕ → ℕ → Found → Type 0
IsFound t old user request before reads reads_then (found.Breaks rule) =
    (all : List ℕ) → before ≡ Some all → seen_next t (seen_by old user all) request ≡ Err (record { line = request.line; rule = rule })
IsFound t old user request before reads reads_then found.Read = Rose reads reads_then
IsFound t old user request before reads reads_then found.Memory = Unit {0}

abbrev pub IsJudged : Terms → Judge → Judge → Name → Request → Option (List ℕ) → Option (List ℕ) → ℕ → ℕ → Result (Unit {0}) Found → Type 0
IsJudged t old new user request before after reads reads_then (Ok done) = HasSeen t old new user request before after
IsJudged t old new user request before after reads reads_then (Err fault) = IsFound t old user request before reads reads_then fault

-- a whole reply in form was read, with this text, whose point is in order; where the output tells, this was and this is left of it
pub record IsNext (t : Terms) (last : ℕ) (before after : Option (List ℕ)) (text : List ℕ) (form : ReplyForm) : Type 0 where
  pub in_order : is_in_order last t.ceiling (point_in (form_for form)) ≡ true
  pub took : (all : List ℕ) → before ≡ Some all → TookReply all after text form

-- a source's count of faults doesn't fall, and its label stays. The first two arguments are the source's meanings.
pub record StaysSource {S : Type 0} (faults : S → ℕ) (label : S → List ℕ) (old new : S) : Type 0 where
  pub later : faults old ≤ faults new
  pub same : label new ≡ label old
