use Rattle.std.proofs.Common.{◌≡◌, ◌++◌, Err, sym, ap, ◌∙◌, subst}
use Rattle.plan_audit.specs.declared.rounds.RunFault.TheVariants as run
use Rattle.plan_audit.specs.Verdicts.{session_seen}
use Rattle.plan_audit.specs.Cases.{terms_of}
use Rattle.plan_audit.specs.Rounds.{IsRunFault, is_told_unread}
use Rattle.plan_audit.proofs.Points.{session_fault}
use Rattle.plan_audit.proofs.Gone.{gone_by, read_told}
use Rattle.plan_audit.proofs.rounds.audit_desk.Goals as goal

pub returns-in-Ok-extend_from_slice-clause-seen : goal.returns-in-Ok-extend_from_slice-clause-seen
returns-in-Ok-extend_from_slice-clause-seen g c pair input output =
    (c.in-Ok.more.items, c.in-Ok.ensures.points pair input output, c.in-Ok-extend_from_slice.ensures.items ∙ ap (λ more. c.args.points.now.items ++ more) c.as_slice.ensures.value)

pub returns-clause-seen : goal.returns-clause-seen
returns-clause-seen g c pair input output =
    subst (IsRunFault (session_seen c.args.case.base.now c.args.case.entries.now c.args.case.floor c.args.case.ceiling c.args.case.session pair)) (sym c.fault_at.ensures)
    (session_fault (terms_of c.args.case) pair c.in-Err.fault (c.in-Err.ensures.fault pair input output))

pub returns-clause-gone : goal.returns-clause-gone
returns-clause-gone g c =
    gone_by g.S.Source.faults g.S.Source.label g.K.Source.faults g.K.Source.label c.args.desk.now _ c.in-Err.fault c.audit_session.ensures.input c.audit_session.ensures.output
    (λ is. c.in-Err.ensures.read (ap Err is)) (λ is. c.in-Err.ensures.read_output (ap Err is)) c.served_as-desk.ensures

pub returns-clause-read : goal.returns-clause-read
returns-clause-read g c is =
    let same : c.fault_at.result ≡ run.Read = cc in
    ap is_told_unread c.served_as-desk.ensures ∙ read_told c.args.case.session c.args.desk.now.served c.in-Err.fault (sym c.fault_at.ensures ∙ same)
