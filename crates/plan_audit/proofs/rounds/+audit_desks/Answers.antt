use Rattle.std.proofs.Common.{◌≡◌, ◌∙◌, ◌+◌, drop, get_or, sym, subst, arith}
use Rattle.plan_audit.specs.Verdicts.{round_seen}
use Rattle.plan_audit.specs.Cases.{terms_of}
use Rattle.plan_audit.specs.Rounds.{AreTold, ArePoints}
use Rattle.plan_audit.proofs.Points.{no_desks, desk_fault, desk_then, nothing_left, one_left, later_left, terms_at}
use Rattle.plan_audit.proofs.Gone.{are_same, are_then, are_set, any_set}
use Rattle.plan_audit.specs.Rounds.{is_unread}
use Rattle.plan_audit.proofs.rounds.+audit_desks.Goals as goal

pub returns-then-at-desks-clause-seen : goal.returns-then-at-desks-clause-seen
returns-then-at-desks-clause-seen g t c pairs told =
    no_desks g.S.Source.left g.K.Source.left c.args.case.now.base.now c.args.case.now.entries.now c.args.case.now.floor c.args.case.now.ceiling (c.args.case.now.session + c.args.at) (drop c.args.at c.args.desks.now) pairs c.args.points.now.items (nothing_left c.args.at c.args.desks.now (omega (arith, c.if-at-desks.true))) told

pub audit_desk-requires-clause-terms : goal.audit_desk-requires-clause-terms
audit_desk-requires-clause-terms g t c = terms_at (terms_of c.args.case.now) (c.args.case.now.session + c.args.at) c.requires.terms

pub returns-in-Err-clause-seen : goal.returns-in-Err-clause-seen
returns-in-Err-clause-seen g t c pairs told =
    desk_fault g.S.Source.left g.K.Source.left c.args.case.now.base.now c.args.case.now.entries.now c.args.case.now.floor c.args.case.now.ceiling (c.args.case.now.session + c.args.at) (drop c.args.at c.args.desks.now) (drop (c.args.at + 1) c.args.desks.now) (get_or c.args.desks.now c.args.at c.index-desks-at.result) pairs c.in-Err.fault (one_left c.args.at c.args.desks.now c.index-desks-at.result (omega (arith, c.if-at-desks.false))) told (λ pair input output. c.in-Err.ensures.seen pair input output)

pub returns-clause-seen : goal.returns-clause-seen
returns-clause-seen g t c pairs told =
    desk_then g.S.Source.left g.K.Source.left c.args.case.now.base.now c.args.case.now.entries.now c.args.case.now.floor c.args.case.now.ceiling (c.args.case.now.session + c.args.at) (drop c.args.at c.args.desks.now) (drop (c.args.at + 1) c.args.desks.now) (get_or c.args.desks.now c.args.at c.index-desks-at.result) pairs c.args.points.now.items c.audit_desk.new.points.items c.audit_desks.new.points.items c.audit_desks.result (one_left c.args.at c.args.desks.now c.index-desks-at.result (omega (arith, c.if-at-desks.false))) told
    (λ pair input output. c.in_default.ensures.seen pair input output)
    (λ rest h.
    let next : c.args.case.now.session + (c.args.at + 1) ≡ c.args.case.now.session + c.args.at + 1 = omega arith in
    subst (λ n. ArePoints (round_seen c.args.case.now.base.now c.args.case.now.entries.now c.args.case.now.floor c.args.case.now.ceiling n rest) c.audit_desk.new.points.items c.audit_desks.new.points.items c.audit_desks.result) next
    (c.audit_desks.ensures.seen rest (subst (λ ds. AreTold g.S.Source.left g.K.Source.left ds rest) (sym (later_left c.args.at c.args.desks.now c.audit_desk.new.desk)) h)))

pub returns-then-at-desks-clause-gone : goal.returns-then-at-desks-clause-gone
returns-then-at-desks-clause-gone g t c = are_same g.S.Source.faults g.S.Source.label g.K.Source.faults g.K.Source.label c.args.desks.now

pub returns-in-Err-clause-gone : goal.returns-in-Err-clause-gone
returns-in-Err-clause-gone g t c =
    are_set g.S.Source.faults g.S.Source.label g.K.Source.faults g.K.Source.label c.args.desks.now c.args.at c.index-desks-at.result c.audit_desk.new.desk (omega (arith, c.if-at-desks.false)) c.audit_desk.ensures.gone

pub returns-in-Err-clause-read : goal.returns-in-Err-clause-read
returns-in-Err-clause-read g t c is = any_set is_unread c.args.desks.now c.args.at c.audit_desk.new.desk (omega (arith, c.if-at-desks.false)) (c.audit_desk.ensures.read (c.in-Err.is ∙ is))

pub returns-clause-gone : goal.returns-clause-gone
returns-clause-gone g t c =
    are_then g.S.Source.faults g.S.Source.label g.K.Source.faults g.K.Source.label c.args.desks.now _ c.audit_desks.new.desks
    (are_set g.S.Source.faults g.S.Source.label g.K.Source.faults g.K.Source.label c.args.desks.now c.args.at c.index-desks-at.result c.audit_desk.new.desk (omega (arith, c.if-at-desks.false)) c.audit_desk.ensures.gone)
    c.audit_desks.ensures.gone
