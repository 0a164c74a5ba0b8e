use Rattle.std.proofs.Common.{sym, subst}
use Rattle.plan_audit.specs.Cases.{terms_of}
use Rattle.plan_audit.specs.Sessions.{to_read, IsThrough}
use Rattle.plan_audit.proofs.Through.{fault_told, through, not_through, unread}
use Rattle.plan_audit.proofs.session.audit_session.Goals as goal

pub returns-in-Err-clause-fault : goal.returns-in-Err-clause-fault
returns-in-Err-clause-fault g c pair input output =
    fault_told (terms_of c.args.case) c.in-Ok.judge pair c.in-Ok.ensures.none c.hear-heard.new.hearing.judge (to_read g.K.Source.left g.K.Source.faults g.K.Source.label (terms_of c.args.case) c.hear-heard.new.hearing.judge c.hear-heard.new.hearing.output.now) c.in-Err.fault
    (c.in-Err.ensures.heard pair.input pair.output input (unread c.in-Ok.judge.replies.ahead (g.K.Source.left c.args.output.now) pair.output c.in-Ok.ensures.ahead output))

pub returns-in-Ok-close-clause-points : goal.returns-in-Ok-close-clause-points
returns-in-Ok-close-clause-points g c pair input output =
    let h = c.in_default-heard.ensures.heard pair.input pair.output input (unread c.in-Ok.judge.replies.ahead (g.K.Source.left c.args.output.now) pair.output c.in-Ok.ensures.ahead output) in
    subst (λ (v : _). IsThrough (terms_of c.args.case) pair v.items) (sym c.close.ensures.accepted)
    (through (terms_of c.args.case) c.in-Ok.judge pair c.in-Ok.ensures.none c.hear-heard.new.hearing.judge (to_read g.K.Source.left g.K.Source.faults g.K.Source.label (terms_of c.args.case) c.hear-heard.new.hearing.judge c.hear-heard.new.hearing.output.now) h.0 h.1 (c.in-Ok-close.ensures.closed h.1.rest h.1.left))

pub returns-in-Err-close-clause-fault : goal.returns-in-Err-close-clause-fault
returns-in-Err-close-clause-fault g c pair input output =
    let h = c.in_default-heard.ensures.heard pair.input pair.output input (unread c.in-Ok.judge.replies.ahead (g.K.Source.left c.args.output.now) pair.output c.in-Ok.ensures.ahead output) in
    not_through (terms_of c.args.case) c.in-Ok.judge pair c.in-Ok.ensures.none c.hear-heard.new.hearing.judge (to_read g.K.Source.left g.K.Source.faults g.K.Source.label (terms_of c.args.case) c.hear-heard.new.hearing.judge c.hear-heard.new.hearing.output.now) h.0 h.1 c.in-Err-close.fault (c.in-Err-close.ensures.closed h.1.rest h.1.left)
