-- A session that was gone through.
use Rattle.std.proofs.Common.{◌≡◌, ◌≢◌, ℕ, false, List, [], ◌∷◌, Option, Some, Result, Ok, Err, refl, sym, ap, ◌∙◌, arith}
use Rattle.std.specs.Prelude.{if◌then◌else◌}
use Rattle.plan_schema.specs.declared.change.Entry.{Entry}
use Rattle.plan_schema.specs.Contents.{Contents}
use Rattle.plan_core.specs.State.{State, begin_state, history}
use Rattle.session_rules.specs.Requests.{guest}
use Rattle.request_loop.specs.Serving.{is_past_limit}
use Rattle.plan_audit.specs.declared.verdict.AuditRule.TheVariants as rules
use Rattle.plan_audit.specs.declared.case.Judge.{Judge}
use Rattle.plan_audit.specs.declared.session.SessionFault.{SessionFault}
use Rattle.plan_audit.specs.declared.session.SessionFault.TheVariants as session
use Rattle.plan_audit.specs.Ahead.{still}
use Rattle.plan_audit.specs.Inputs.{heard}
use Rattle.plan_audit.specs.Judging.{Seen, none_seen, Broken, all_seen}
use Rattle.plan_audit.specs.Verdicts.{Pair, Breaks, IsLong, behind_last, of_session, session_seen}
use Rattle.plan_audit.specs.Standing.{StandsAt}
use Rattle.plan_audit.specs.Cases.{Terms, seen_by}
use Rattle.plan_audit.specs.Sessions.{AreSeen, IsHeardTo, IsClosed, IsThrough, IsSessionFault}

-- a book that has no entries
pub begun : (base contents : Contents) (entries : List Entry) (most : ℕ) (book : State) → contents ≡ base → book ≡ begin_state contents most → StandsAt base entries book 0
begun base contents entries most book same is =
    record { began = ap (λ (b : State). b.base) is ∙ same; entered = ap history is; within = omega arith }

module _ (t : Terms) (old : Judge) (pair : Pair) (before : (output : List ℕ) → seen_by old guest output ≡ none_seen t.floor output) where
  from_none : (r : Result Seen Broken) → all_seen t.base t.entries t.session t.floor t.ceiling (seen_by old guest pair.output) (heard pair.input) ≡ r → session_seen t.base t.entries t.floor t.ceiling t.session pair ≡ of_session t.session pair.input r
  unfolding session_seen
  from_none r e = ap (λ seen. of_session t.session pair.input (all_seen t.base t.entries t.session t.floor t.ceiling seen (heard pair.input))) (sym (before pair.output)) ∙ ap (of_session t.session pair.input) e

  -- something was found while it was heard
  pub fault_told : (new : Judge) (after : Option (List ℕ)) (fault : SessionFault) → IsHeardTo t old new pair.input pair.output after (Err fault) → IsSessionFault t pair fault
  fault_told new after session.Input h = tt
  fault_told new after session.Output h = tt
  fault_told new after session.Memory h = tt
  fault_told new after session.Limit h =
      from_none (Ok h.1.0) h.1.1 ∙ ap (λ b. if b then Err (IsLong t.session) else behind_last t.session h.1.0 h.1.0.left) h.0
  fault_told new after (session.Breaks line rule) h = from_none (Err (record { line = line; rule = rule })) h

  module _ (new : Judge) (after : Option (List ℕ)) (within : is_past_limit pair.input ≡ false) (seen : AreSeen t old new pair.input pair.output after) where
    at_end : session_seen t.base t.entries t.floor t.ceiling t.session pair ≡ behind_last t.session (seen_by new seen.user seen.rest) seen.rest
    at_end = from_none (Ok (seen_by new seen.user seen.rest)) seen.all ∙ ap (λ b. if b then Err (IsLong t.session) else behind_last t.session (seen_by new seen.user seen.rest) seen.rest) within

    -- and nothing follows
    pub through : IsClosed new.line seen.rest (Ok tt) → IsThrough t pair new.accepted.items
    through none = at_end ∙ ap (behind_last t.session (seen_by new seen.user seen.rest)) none

    some_left : (rest : List ℕ) → rest ≢ [] → behind_last t.session (seen_by new seen.user seen.rest) rest ≡ Err (Breaks t.session (record { line = new.line; rule = rules.Extra }))
    some_left [] some = absurd (some refl)
    some_left (byte ∷ bytes) some = refl

    -- or something does
    pub not_through : (fault : SessionFault) → IsClosed new.line seen.rest (Err fault) → IsSessionFault t pair fault
    not_through session.Input h = tt
    not_through session.Output h = tt
    not_through session.Memory h = tt
    not_through session.Limit h = absurd h
    not_through (session.Breaks line rule) h = at_end ∙ some_left seen.rest h.0 ∙ λ i. Err (Breaks t.session (record { line = sym h.1 i; rule = sym h.2 i }))

-- an output of which nothing was read
pub unread : (ahead : List ℕ) (left : Option (List ℕ)) (output : List ℕ) → ahead ≡ [] → left ≡ Some output → still ahead left ≡ Some output
unread ahead left output none told = ap (λ bytes. still bytes left) none ∙ ap (still []) told
