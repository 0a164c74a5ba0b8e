use Rattle.std.proofs.Common.{◌≡◌, ◌∙◌, length, ap, sym, subst}
use Rattle.plan_audit.specs.Verdicts.{of_sessions}
use Rattle.plan_audit.specs.Audits.{AreMarks}
use Rattle.plan_audit.proofs.auditing.audit_sessions.Goals as goal

pub returns-in_ok-marks-in-Ok-clause-verdict : goal.returns-in_ok-marks-in-Ok-clause-verdict
returns-in_ok-marks-in-Ok-clause-verdict g c = λ pairs told.
    let entries = c.args.entries.now in
    let points = c.in-Ok.points.items in
    let marks = subst (λ ps. AreMarks c.in_ok-marks-in-Ok.marks.items ps (length entries)) c.as_slice.ensures.value c.in_ok-marks-in-Ok.ensures.marks in
    ap (of_sessions entries) (c.in-Ok.ensures.points pairs told)
    ∙ c.judged_by.ensures points (subst (λ ms. AreMarks ms points (length entries)) (sym c.as_slice-in-Ok.ensures.value) marks)

pub returns-in-Err-clause-verdict : goal.returns-in-Err-clause-verdict
returns-in-Err-clause-verdict g c = λ pairs told. c.fault_told.ensures.verdict c.args.entries.now _ (c.in-Err.ensures.fault pairs told)
