use Rattle.std.proofs.Common.{refl, sym, ap, ◌∙◌, append-nil}
use Rattle.request_loop.specs.Exchanges.{to_ask}
use Rattle.plan_audit.specs.declared.verdict.AuditRule.TheVariants as rules
use Rattle.plan_audit.specs.Ahead.{still}
use Rattle.plan_audit.specs.Replies.{form_for}
use Rattle.plan_audit.specs.Cases.{terms_of}
use Rattle.plan_audit.proofs.Stands.{behind_stays}
use Rattle.plan_audit.proofs.Requests.{rule_answer, rule_none, breaks, passes, reached_again, told_fault}
use Rattle.plan_audit.proofs.judge.judge_answer.Goals as goal

pub returns-in_err-form-clause-judged : goal.returns-in_err-form-clause-judged
returns-in_err-form-clause-judged g c =
    told_fault (terms_of c.args.case.now) c.args.judge.now c.next_reply.new.judge c.args.user.now (to_ask c.args.line c.args.command.now) (still c.args.judge.now.replies.ahead (g.K.Source.left c.args.output.now)) (still c.next_reply.new.judge.replies.ahead (g.K.Source.left c.next_reply.new.output)) (g.K.Source.faults c.args.output.now) (g.K.Source.faults c.next_reply.new.output) c.from_residual.result c.in_err-form.field-0.0 c.from_residual.ensures
    (c.in_err-form.ensures.found c.args.user.now (to_ask c.args.line c.args.command.now))

pub is_right_answer-requires-clause-reached : goal.is_right_answer-requires-clause-reached
is_right_answer-requires-clause-reached g c = reached_again c.args.judge.now.last c.next_reply.new.judge.last (form_for c.in_ok-form.form) c.in_ok-form.ensures.reached

pub returns-then-not-branch-clause-judged : goal.returns-then-not-branch-clause-judged
returns-then-not-branch-clause-judged g c =
    breaks (terms_of c.args.case.now) c.args.judge.now c.args.user.now (to_ask c.args.line c.args.command.now) (still c.args.judge.now.replies.ahead (g.K.Source.left c.args.output.now)) (still c.next_reply.new.judge.replies.ahead (g.K.Source.left c.next_reply.new.output)) c.next_reply.new.judge.replies.text c.in_ok-form.form c.in_ok-form.ensures.next rules.Answer (g.K.Source.faults c.args.output.now) (g.K.Source.faults c.next_reply.new.output)
    (rule_answer (terms_of c.args.case.now) c.args.judge.now c.args.user.now (to_ask c.args.line c.args.command.now) (form_for c.in_ok-form.form) c.next_reply.new.judge.replies.text refl (sym (c.in_ok-is_right_answer.ensures.right) ∙ c.if-not-branch.true))

pub returns-clause-behind : goal.returns-clause-behind
returns-clause-behind g c = behind_stays (terms_of c.args.case.now) c.is_right_answer.new.judge (record c.is_right_answer.new.judge { line = c.args.line }) c.is_right_answer.ensures.behind refl refl

pub returns-clause-judged : goal.returns-clause-judged
returns-clause-judged g c all told =
    let keeps = c.is_right_answer.ensures.keeps in
    let waits = c.next_reply.ensures.stays in
    let s = passes (terms_of c.args.case.now) c.args.judge.now c.args.user.now (to_ask c.args.line c.args.command.now) (still c.args.judge.now.replies.ahead (g.K.Source.left c.args.output.now)) (still c.next_reply.new.judge.replies.ahead (g.K.Source.left c.next_reply.new.output)) c.next_reply.new.judge.replies.text c.in_ok-form.form c.in_ok-form.ensures.next (record c.is_right_answer.new.judge { line = c.args.line })
    (rule_none (terms_of c.args.case.now) c.args.judge.now c.args.user.now (to_ask c.args.line c.args.command.now) (form_for c.in_ok-form.form) c.next_reply.new.judge.replies.text refl (sym (c.in_ok-is_right_answer.ensures.right) ∙ c.if-not-branch.false))
    (keeps.last ∙ c.in_ok-form.ensures.reached) refl (ap (λ (v : _). v.items) (keeps.accepted ∙ waits.accepted) ∙ sym (append-nil c.args.judge.now.accepted.items)) all told in
    (s.0, ap (λ (r : _). still r.ahead (g.K.Source.left c.next_reply.new.output)) keeps.replies ∙ s.1, s.2)
