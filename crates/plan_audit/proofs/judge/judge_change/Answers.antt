use Rattle.std.proofs.Common.{sym, ap, ◌∙◌, ◌++◌}
use Rattle.request_loop.specs.Exchanges.{to_make}
use Rattle.plan_audit.specs.declared.verdict.AuditRule.TheVariants as rules
use Rattle.plan_audit.specs.Ahead.{still}
use Rattle.session_rules.specs.Requests.{Makes}
use Rattle.plan_audit.specs.Judging.{point_accepted}
use Rattle.plan_audit.specs.Replies.{form_for}
use Rattle.plan_audit.specs.Cases.{terms_of}
use Rattle.plan_audit.proofs.Stands.{behind_stays}
use Rattle.plan_audit.proofs.Requests.{rule_entry, rule_answer, rule_none, breaks, passes, reached_again, told_fault}
use Rattle.plan_audit.proofs.judge.judge_change.Goals as goal

pub returns-in_err-form-clause-judged : goal.returns-in_err-form-clause-judged
returns-in_err-form-clause-judged g c =
    told_fault (terms_of c.args.case.now) c.args.judge.now c.next_reply.new.judge c.args.user.now (to_make c.args.line c.args.change.now) (still c.args.judge.now.replies.ahead (g.K.Source.left c.args.output.now)) (still c.next_reply.new.judge.replies.ahead (g.K.Source.left c.next_reply.new.output)) (g.K.Source.faults c.args.output.now) (g.K.Source.faults c.next_reply.new.output) c.from_residual.result c.in_err-form.field-0.0 c.from_residual.ensures
    (c.in_err-form.ensures.found c.args.user.now (to_make c.args.line c.args.change.now))

pub is_right_change-requires-clause-reached : goal.is_right_change-requires-clause-reached
is_right_change-requires-clause-reached g c = reached_again c.args.judge.now.last c.next_reply.new.judge.last (form_for c.in_ok-form.form) c.in_ok-form.ensures.reached

pub returns-then-not-has_entry-clause-judged : goal.returns-then-not-has_entry-clause-judged
returns-then-not-has_entry-clause-judged g c =
    breaks (terms_of c.args.case.now) c.args.judge.now c.args.user.now (to_make c.args.line c.args.change.now) (still c.args.judge.now.replies.ahead (g.K.Source.left c.args.output.now)) (still c.next_reply.new.judge.replies.ahead (g.K.Source.left c.next_reply.new.output)) c.next_reply.new.judge.replies.text c.in_ok-form.form c.in_ok-form.ensures.next rules.Entry (g.K.Source.faults c.args.output.now) (g.K.Source.faults c.next_reply.new.output)
    (rule_entry (terms_of c.args.case.now) c.args.judge.now c.args.user.now (to_make c.args.line c.args.change.now) (form_for c.in_ok-form.form) c.next_reply.new.judge.replies.text (sym c.if-not-has_entry.ensures))

pub returns-then-not-branch-clause-judged : goal.returns-then-not-branch-clause-judged
returns-then-not-branch-clause-judged g c =
    breaks (terms_of c.args.case.now) c.args.judge.now c.args.user.now (to_make c.args.line c.args.change.now) (still c.args.judge.now.replies.ahead (g.K.Source.left c.args.output.now)) (still c.next_reply.new.judge.replies.ahead (g.K.Source.left c.next_reply.new.output)) c.next_reply.new.judge.replies.text c.in_ok-form.form c.in_ok-form.ensures.next rules.Answer (g.K.Source.faults c.args.output.now) (g.K.Source.faults c.next_reply.new.output)
    (rule_answer (terms_of c.args.case.now) c.args.judge.now c.args.user.now (to_make c.args.line c.args.change.now) (form_for c.in_ok-form.form) c.next_reply.new.judge.replies.text (sym c.if-not-has_entry.ensures) (sym (c.in_ok-is_right_change.ensures.right) ∙ c.if-not-branch.true))

pub returns-in_err-pass-clause-behind : goal.returns-in_err-pass-clause-behind
returns-in_err-pass-clause-behind g c = behind_stays (terms_of c.args.case.now) c.is_right_change.new.judge c.pass.new.self c.is_right_change.ensures.behind c.pass.ensures.rest.book c.pass.ensures.last

pub returns-clause-behind : goal.returns-clause-behind
returns-clause-behind g c = behind_stays (terms_of c.args.case.now) c.is_right_change.new.judge c.pass.new.self c.is_right_change.ensures.behind c.pass.ensures.rest.book c.pass.ensures.last

pub returns-clause-judged : goal.returns-clause-judged
returns-clause-judged g c all told =
    let keeps = c.is_right_change.ensures.keeps in
    let waits = c.next_reply.ensures.stays in
    let passed = c.in_ok-pass.ensures in
    let accepted = passed.accepted c.args.change.now ∙ ap (λ (v : _). v.items ++ point_accepted (Makes c.args.change.now) (form_for c.in_ok-form.form)) (keeps.accepted ∙ waits.accepted) in
    let s = passes (terms_of c.args.case.now) c.args.judge.now c.args.user.now (to_make c.args.line c.args.change.now) (still c.args.judge.now.replies.ahead (g.K.Source.left c.args.output.now)) (still c.next_reply.new.judge.replies.ahead (g.K.Source.left c.next_reply.new.output)) c.next_reply.new.judge.replies.text c.in_ok-form.form c.in_ok-form.ensures.next c.pass.new.self
    (rule_none (terms_of c.args.case.now) c.args.judge.now c.args.user.now (to_make c.args.line c.args.change.now) (form_for c.in_ok-form.form) c.next_reply.new.judge.replies.text (sym c.if-not-has_entry.ensures) (sym (c.in_ok-is_right_change.ensures.right) ∙ c.if-not-branch.false))
    (passed.last ∙ keeps.last ∙ c.in_ok-form.ensures.reached) passed.line accepted all told in
    (s.0, ap (λ (r : _). still r.ahead (g.K.Source.left c.next_reply.new.output)) (passed.rest.replies ∙ keeps.replies) ∙ s.1, s.2)
