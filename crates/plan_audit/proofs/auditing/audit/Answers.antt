use Rattle.std.proofs.Common.{◌≡◌, ◌∙◌, ap, sym, subst}
use Rattle.plan_audit.specs.Verdicts.{of_journal, of_sessions, rounds_seen, audited}
use Rattle.plan_audit.specs.Audits.{ComesTo}
use Rattle.plan_audit.proofs.Gone.{rounds_same}
use Rattle.plan_audit.proofs.auditing.audit.Goals as goal

pub returns-in-Some-clause-verdict : goal.returns-in-Some-clause-verdict
unfolding audited
returns-in-Some-clause-verdict g c = λ pairs told.
    let entries = c.args.journal.now.entries in
    ap (λ number. of_journal number (of_sessions entries (rounds_seen c.args.base.now entries 1 pairs))) (sym c.in_ok-number.ensures.found ∙ c.in-Some.is)

pub returns-in-None-clause-verdict : goal.returns-in-None-clause-verdict
unfolding audited
returns-in-None-clause-verdict g c = λ pairs told.
    let entries = c.args.journal.now.entries in
    let base = c.args.base.now in
    subst (λ finding. ComesTo finding c.audit_sessions.result)
    (sym (ap (λ number. of_journal number (of_sessions entries (rounds_seen base entries 1 pairs))) (sym c.in_ok-number.ensures.found ∙ c.in-None.is)))
    (subst (λ es. ComesTo (of_sessions es (rounds_seen base es 1 pairs)) c.audit_sessions.result) c.as_slice.ensures (c.audit_sessions.ensures.verdict pairs told))

pub returns-in_err-number-clause-gone : goal.returns-in_err-number-clause-gone
returns-in_err-number-clause-gone g c = rounds_same g.S.Source.faults g.S.Source.label g.K.Source.faults g.K.Source.label c.args.rounds.now

pub returns-in-Some-clause-gone : goal.returns-in-Some-clause-gone
returns-in-Some-clause-gone g c = rounds_same g.S.Source.faults g.S.Source.label g.K.Source.faults g.K.Source.label c.args.rounds.now
