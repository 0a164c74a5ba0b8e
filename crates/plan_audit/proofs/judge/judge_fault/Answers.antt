use Rattle.std.proofs.Common.{refl, sym, ap, ◌∙◌, append-nil}
use Rattle.request_loop.specs.Exchanges.{to_tell}
use Rattle.plan_audit.specs.declared.verdict.AuditRule.TheVariants as rules
use Rattle.plan_audit.specs.Ahead.{still}
use Rattle.plan_audit.specs.Replies.{form_for}
use Rattle.plan_audit.specs.Cases.{terms_of}
use Rattle.plan_audit.proofs.Stands.{behind_stays}
use Rattle.plan_audit.proofs.Requests.{rule_answer, rule_none, breaks, passes, told_fault}
use Rattle.plan_audit.proofs.judge.judge_fault.Goals as goal

pub returns-in_err-form-clause-judged : goal.returns-in_err-form-clause-judged
returns-in_err-form-clause-judged g c user =
    told_fault (terms_of c.args.case.now) c.args.judge.now c.next_reply.new.judge user (to_tell c.args.line c.args.bad) (still c.args.judge.now.replies.ahead (g.K.Source.left c.args.output.now)) (still c.next_reply.new.judge.replies.ahead (g.K.Source.left c.next_reply.new.output)) (g.K.Source.faults c.args.output.now) (g.K.Source.faults c.next_reply.new.output) c.from_residual.result c.in_err-form.field-0.0 c.from_residual.ensures
    (c.in_err-form.ensures.found user (to_tell c.args.line c.args.bad))

pub returns-then-not-branch-clause-judged : goal.returns-then-not-branch-clause-judged
returns-then-not-branch-clause-judged g c user =
    breaks (terms_of c.args.case.now) c.args.judge.now user (to_tell c.args.line c.args.bad) (still c.args.judge.now.replies.ahead (g.K.Source.left c.args.output.now)) (still c.next_reply.new.judge.replies.ahead (g.K.Source.left c.next_reply.new.output)) c.next_reply.new.judge.replies.text c.in_ok-form.form c.in_ok-form.ensures.next rules.Answer (g.K.Source.faults c.args.output.now) (g.K.Source.faults c.next_reply.new.output)
    (rule_answer (terms_of c.args.case.now) c.args.judge.now user (to_tell c.args.line c.args.bad) (form_for c.in_ok-form.form) c.next_reply.new.judge.replies.text refl (sym (c.in_ok-is_told_so.ensures user) ∙ c.if-not-branch.true))

pub returns-clause-behind : goal.returns-clause-behind
returns-clause-behind g c = behind_stays (terms_of c.args.case.now) c.next_reply.new.judge (record c.next_reply.new.judge { line = c.args.line }) c.next_reply.ensures.behind refl refl

pub returns-clause-judged : goal.returns-clause-judged
returns-clause-judged g c user all told =
    let waits = c.next_reply.ensures.stays in
    let s = passes (terms_of c.args.case.now) c.args.judge.now user (to_tell c.args.line c.args.bad) (still c.args.judge.now.replies.ahead (g.K.Source.left c.args.output.now)) (still c.next_reply.new.judge.replies.ahead (g.K.Source.left c.next_reply.new.output)) c.next_reply.new.judge.replies.text c.in_ok-form.form c.in_ok-form.ensures.next (record c.next_reply.new.judge { line = c.args.line })
    (rule_none (terms_of c.args.case.now) c.args.judge.now user (to_tell c.args.line c.args.bad) (form_for c.in_ok-form.form) c.next_reply.new.judge.replies.text refl (sym (c.in_ok-is_told_so.ensures user) ∙ c.if-not-branch.false))
    c.in_ok-form.ensures.reached refl (ap (λ (v : _). v.items) waits.accepted ∙ sym (append-nil c.args.judge.now.accepted.items)) all told in
    (s.0, s.1, s.2)
