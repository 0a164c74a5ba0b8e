-- A reply that was read, judged as the definitions judge it.
use Rattle.std.proofs.Common.{◌≡◌, ◌≢◌, ℕ, ◌-◌, Bool, true, false, not, List, [], ◌∷◌, ◌++◌, length, take, Option, Some, None, Result, Ok, Err, refl, sym, ap, ◌∙◌, subst, arith, length-append}
use Rattle.std.specs.Prelude.{if◌then◌else◌, unwrap_or, IsErr, IsErrAnd}
use Rattle.std.proofs.Math.Seq.{take-append_seam}
use Rattle.plan_schema.specs.declared.name.Name.{Name}
use Rattle.command_words.specs.Forms.{Form, whole_reply}
use Rattle.session_rules.specs.Requests.{Request, user_after}
use Rattle.plan_audit.specs.declared.case.Judge.{Judge}
use Rattle.plan_audit.specs.declared.case.Found.{Found}
use Rattle.plan_audit.specs.declared.case.Found.TheVariants as found
use Rattle.plan_audit.specs.declared.form.ReplyForm.{ReplyForm}
use Rattle.plan_audit.specs.declared.verdict.AuditRule.{AuditRule}
use Rattle.plan_audit.specs.declared.verdict.AuditRule.TheVariants as rules
use Rattle.plan_audit.specs.Replies.{form_for, TookReply}
use Rattle.plan_audit.specs.Judging.{Seen, seen_after, reply_seen, reply_read, rule_broken, is_in_order, has_entry, is_right, point_in, last_after, point_accepted}
use Rattle.plan_audit.specs.Cases.{Terms, seen_by, seen_next, rule_behind, HasSeen, IsFound, IsJudged, IsNext}

module _ (t : Terms) (old : Judge) (user : Name) (request : Request) where
  pub short_is : (all : List ℕ) → all ≡ [] → seen_next t (seen_by old user all) request ≡ Err (record { line = request.line; rule = rules.Short })
  unfolding seen_after
  short_is [] none = refl
  short_is (byte ∷ bytes) none = let no : ⊥ = cc in absurd no

  pub formless_is : (all : List ℕ) → all ≢ [] → whole_reply all ≡ None → seen_next t (seen_by old user all) request ≡ Err (record { line = request.line; rule = rules.Form })
  unfolding seen_after
  formless_is [] some none = absurd (some refl)
  formless_is (byte ∷ bytes) some none = ap (reply_read t.base t.entries t.session t.floor t.ceiling (seen_by old user (byte ∷ bytes)) request (byte ∷ bytes)) none

  text_is : (all text behind : List ℕ) → all ≡ text ++ behind → take (length all - length behind) all ≡ text
  text_is all text behind whole =
      let count : length all - length behind ≡ length text = let both = ap length whole ∙ length-append text behind in omega (arith, both) in
      (λ i. take (count i) (whole i)) ∙ take-append_seam text behind

  none_whole : (form : Form) (behind : List ℕ) → whole_reply [] ≡ Some (form, behind) → ⊥
  unfolding whole_reply
  none_whole form behind e = cc

  -- a whole reply in form was read
  pub reply_is : (all text : List ℕ) (after : Option (List ℕ)) (form : ReplyForm) → (h : TookReply all after text form)
      → seen_next t (seen_by old user all) request ≡ reply_seen t.base t.entries t.session t.floor t.ceiling (seen_by old user all) request (form_for form) h.behind (rule_broken t.base t.entries t.session t.floor t.ceiling old.last user request (form_for form) text)
  unfolding seen_after
  reply_is [] text after form h = absurd (none_whole (form_for form) h.behind h.told)
  reply_is (byte ∷ bytes) text after form h =
      let all = byte ∷ bytes in
      let seen = seen_by old user all in
      ap (reply_read t.base t.entries t.session t.floor t.ceiling seen request all) h.told
      ∙ ap (λ shown. reply_seen t.base t.entries t.session t.floor t.ceiling seen request (form_for form) h.behind (rule_broken t.base t.entries t.session t.floor t.ceiling old.last user request (form_for form) shown)) (text_is all text h.behind h.whole)

  point_or_behind : Form → List ℕ → Bool → Option AuditRule
  point_or_behind form text b = if not b then Some rules.Point else rule_behind t user request form text

  rule_is : (form : Form) (text : List ℕ) (b : Bool) → is_in_order old.last t.ceiling (point_in form) ≡ b → rule_broken t.base t.entries t.session t.floor t.ceiling old.last user request form text ≡ point_or_behind form text b
  unfolding point_or_behind
  rule_is form text b e = ap (λ in_order. if not in_order then Some rules.Point else rule_behind t user request form text) e

  -- the rules behind that of the point
  pub rule_entry : (form : Form) (text : List ℕ) → has_entry t.base t.entries t.session t.floor request.line user request.wish form ≡ false → rule_behind t user request form text ≡ Some rules.Entry
  rule_entry form text e = ap (λ b. if not b then Some rules.Entry else (if not (is_right t.base t.entries t.session user request.wish form text) then Some rules.Answer else None)) e

  pub rule_answer : (form : Form) (text : List ℕ) → has_entry t.base t.entries t.session t.floor request.line user request.wish form ≡ true → is_right t.base t.entries t.session user request.wish form text ≡ false → rule_behind t user request form text ≡ Some rules.Answer
  rule_answer form text e right = λ i. if not (e i) then Some rules.Entry else (if not (right i) then Some rules.Answer else None)

  pub rule_none : (form : Form) (text : List ℕ) → has_entry t.base t.entries t.session t.floor request.line user request.wish form ≡ true → is_right t.base t.entries t.session user request.wish form text ≡ true → rule_behind t user request form text ≡ None
  rule_none form text e right = λ i. if not (e i) then Some rules.Entry else (if not (right i) then Some rules.Answer else None)

  -- its point isn't in order
  pub point_is : (all text : List ℕ) (after : Option (List ℕ)) (form : ReplyForm) → TookReply all after text form → is_in_order old.last t.ceiling (point_in (form_for form)) ≡ false
      → seen_next t (seen_by old user all) request ≡ Err (record { line = request.line; rule = rules.Point })
  unfolding point_or_behind
  point_is all text after form h e =
      reply_is all text after form h ∙ ap (reply_seen t.base t.entries t.session t.floor t.ceiling (seen_by old user all) request (form_for form) h.behind) (rule_is (form_for form) text false e)

  module _ (before after : Option (List ℕ)) (text : List ℕ) (form : ReplyForm) (next : IsNext t old.last before after text form) where
    judged_so : (r : Option AuditRule) → rule_behind t user request (form_for form) text ≡ r → (all : List ℕ) → (h : TookReply all after text form)
        → seen_next t (seen_by old user all) request ≡ reply_seen t.base t.entries t.session t.floor t.ceiling (seen_by old user all) request (form_for form) h.behind r
    unfolding point_or_behind
    judged_so r is all h =
        reply_is all text after form h ∙ ap (reply_seen t.base t.entries t.session t.floor t.ceiling (seen_by old user all) request (form_for form) h.behind) (rule_is (form_for form) text true next.in_order ∙ is)

    -- it breaks a later rule
    pub breaks : (rule : AuditRule) (reads reads_then : ℕ) → rule_behind t user request (form_for form) text ≡ Some rule → IsFound t old user request before reads reads_then (found.Breaks rule)
    breaks rule reads reads_then is all told = judged_so (Some rule) is all (next.took all told)

    -- it breaks none
    pub passes : (new : Judge) → rule_behind t user request (form_for form) text ≡ None → new.last ≡ last_after old.last (form_for form) → new.line ≡ request.line
        → new.accepted.items ≡ old.accepted.items ++ point_accepted request.wish (form_for form) → HasSeen t old new user request before after
    passes new is last line accepted all told =
        let h = next.took all told in
        let seen : Seen = record { last = last_after old.last (form_for form); user = user_after user request.wish; left = h.behind; line = request.line; accepted = old.accepted.items ++ point_accepted request.wish (form_for form) } in
        let same : seen ≡ seen_by new (user_after user request.wish) h.behind =
        λ i. record { last = sym last i; user = user_after user request.wish; left = h.behind; line = sym line i; accepted = sym accepted i } in
        (h.behind, h.left, judged_so None is all h ∙ ap Ok same)

-- the last point after a reply, once more
pub reached_again : (old new : ℕ) (form : Form) → new ≡ last_after old form → new ≡ last_after new form
reached_again old new form h = by (point_in form) h
  where
    by : (point : Option ℕ) → new ≡ unwrap_or point old → new ≡ unwrap_or point new
    by None is = refl
    by (Some point) is = is

-- an error that is told as another
pub told_fault : (t : Terms) (old new : Judge) (user : Name) (request : Request) (before after : Option (List ℕ)) (reads reads_then : ℕ) (r : Result (Unit {0}) Found) (fault : Found) → IsErr r × IsErrAnd r (λ f. f ≡ fault) → IsFound t old user request before reads reads_then fault
    → IsJudged t old new user request before after reads reads_then r
told_fault t old new user request before after reads reads_then (Ok done) fault h found = absurd (let no : ⊥ = cc in no)
told_fault t old new user request before after reads reads_then (Err f) fault h found = subst (IsFound t old user request before reads reads_then) (sym h.1) found
