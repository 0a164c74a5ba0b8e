use Rattle.std.proofs.Common.{rules, ◌≡◌, ◌∙◌, ◌+◌, ◌<◌, ◌^◌, drop, length, Ok, sym, subst, arith}
use Rattle.byte_lines.specs.Desks.{desk_count}
use Rattle.session_rules.specs.Runs.{entries_of}
use Rattle.plan_audit.specs.Verdicts.{round_seen}
use Rattle.plan_audit.specs.Rounds.{AreRoundsTold, IsRunFault}
use Rattle.plan_audit.proofs.Points.{no_rounds, round_fault, round_then, nothing_left, later_left, desks_left, round_terms}
use Rattle.plan_audit.proofs.Gone.{rounds_same, rounds_then, rounds_set, unread_set}
use Rattle.plan_audit.proofs.rounds.+audit_from.Goals as goal

pub returns-then-at-rounds-clause-seen : goal.returns-then-at-rounds-clause-seen
returns-then-at-rounds-clause-seen g t c pairs told =
    no_rounds g.S.Source.left g.K.Source.left c.args.case.now.base.now c.args.case.now.entries.now c.args.case.now.session (drop c.args.at c.args.rounds.now) pairs c.args.points.now.items (nothing_left c.args.at c.args.rounds.now (omega (arith, c.if-at-rounds.true, c.rounds.ensures))) told

pub overflow_add-end : goal.overflow_add-end
overflow_add-end g t c =
    let count = (desks_left c.args.rounds.now c.round-desks.result.now c.args.at c.round-desks.ensures.value).1 in let few = c.requires.few in omega (arith, count, few)

pub audit_desks-requires-clause-terms : goal.audit_desks-requires-clause-terms
audit_desks-requires-clause-terms g t c =
    round_terms c.args.case.now.base.now c.args.case.now.entries.now c.args.case.now.session c.args.case.now.session (c.args.case.now.session + length c.round-desks.result.now) c.entries_before-floor.result c.entries_before-ceiling.result c.requires.sound c.requires.accepted (omega arith) c.entries_before-floor.ensures c.entries_before-ceiling.ensures

pub audit_desks-requires-clause-few : goal.audit_desks-requires-clause-few
audit_desks-requires-clause-few g t c =
    let count = (desks_left c.args.rounds.now c.round-desks.result.now c.args.at c.round-desks.ensures.value).1 in let few = c.requires.few in omega (arith, count, few)

pub returns-in-Err-clause-seen : goal.returns-in-Err-clause-seen
returns-in-Err-clause-seen g t c pairs told =
    round_fault g.S.Source.left g.K.Source.left c.args.case.now.base.now c.args.case.now.entries.now c.args.case.now.session (drop c.args.at c.args.rounds.now) (drop (c.args.at + 1) c.args.rounds.now) c.round-desks.result.now pairs c.in-Err.fault (desks_left c.args.rounds.now c.round-desks.result.now c.args.at c.round-desks.ensures.value).0 told
    (λ round h.
    let same : c.args.case.now.session + 0 ≡ c.args.case.now.session = omega arith in
    subst (λ n. IsRunFault (round_seen c.args.case.now.base.now c.args.case.now.entries.now n (entries_of c.args.case.now.entries.now 0 (c.args.case.now.session + length c.round-desks.result.now)) c.args.case.now.session round) c.in-Err.fault) c.entries_before-floor.ensures
    (subst (λ n. IsRunFault (round_seen c.args.case.now.base.now c.args.case.now.entries.now c.entries_before-floor.result n c.args.case.now.session round) c.in-Err.fault) c.entries_before-ceiling.ensures
    (subst (λ n. IsRunFault (round_seen c.args.case.now.base.now c.args.case.now.entries.now c.entries_before-floor.result c.entries_before-ceiling.result n round) c.in-Err.fault) same (c.in-Err.ensures.seen round h))))

pub audit_from-requires : goal.audit_from-requires
audit_from-requires g t c κs within =
    let count = (desks_left c.args.rounds.now c.round-desks.result.now c.args.at c.round-desks.ensures.value).1 in let few = c.requires.few in
    let here : (c.args.case.now.session + length c.round-desks.result.now) + desk_count (drop (c.args.at + 1) c.args.rounds.now) < 2 ^ 64 = omega (arith, count, few) in
    (search rules, (within.0, (within.1, (c.requires.whole, (c.requires.limits, (c.requires.sound, (c.requires.accepted, subst (λ rs. (c.args.case.now.session + length c.round-desks.result.now) + desk_count rs < 2 ^ 64) (sym (later_left c.args.at c.args.rounds.now _)) here)))))))

pub returns-clause-seen : goal.returns-clause-seen
returns-clause-seen g t c pairs told =
    round_then g.S.Source.left g.K.Source.left c.args.case.now.base.now c.args.case.now.entries.now c.args.case.now.session (drop c.args.at c.args.rounds.now) (drop (c.args.at + 1) c.args.rounds.now) c.round-desks.result.now pairs c.args.points.now.items c.audit_desks.new.points.items c.audit_from.new.points.items c.audit_from.result (desks_left c.args.rounds.now c.round-desks.result.now c.args.at c.round-desks.ensures.value).0 told
    (λ round h.
    let same : c.args.case.now.session + 0 ≡ c.args.case.now.session = omega arith in
    let r = c.in_default.ensures.seen round h in (
      r.0,
      subst (λ n. round_seen c.args.case.now.base.now c.args.case.now.entries.now n (entries_of c.args.case.now.entries.now 0 (c.args.case.now.session + length c.round-desks.result.now)) c.args.case.now.session round ≡ Ok r.0) c.entries_before-floor.ensures
          (subst (λ n. round_seen c.args.case.now.base.now c.args.case.now.entries.now c.entries_before-floor.result n c.args.case.now.session round ≡ Ok r.0) c.entries_before-ceiling.ensures
          (subst (λ n. round_seen c.args.case.now.base.now c.args.case.now.entries.now c.entries_before-floor.result c.entries_before-ceiling.result n round ≡ Ok r.0) same r.1)),
      r.2,
    ))
    (λ rest h. c.audit_from.ensures.seen rest (subst (λ rs. AreRoundsTold g.S.Source.left g.K.Source.left rs rest) (sym (later_left c.args.at c.args.rounds.now _)) h))

pub returns-then-at-rounds-clause-gone : goal.returns-then-at-rounds-clause-gone
returns-then-at-rounds-clause-gone g t c = rounds_same g.S.Source.faults g.S.Source.label g.K.Source.faults g.K.Source.label c.args.rounds.now

pub returns-in-Err-clause-gone : goal.returns-in-Err-clause-gone
returns-in-Err-clause-gone g t c =
    rounds_set g.S.Source.faults g.S.Source.label g.K.Source.faults g.K.Source.label c.args.rounds.now c.args.at c.round-desks.result.now c.audit_desks.new.desks c.round-desks.ensures.value c.audit_desks.ensures.gone

pub returns-in-Err-clause-read : goal.returns-in-Err-clause-read
returns-in-Err-clause-read g t c is =
    unread_set g.S.Source.faults g.S.Source.label g.K.Source.faults g.K.Source.label c.args.rounds.now c.args.at c.round-desks.result.now c.audit_desks.new.desks c.round-desks.ensures.value c.audit_desks.ensures.gone (c.audit_desks.ensures.read (c.in-Err.is ∙ is))

pub returns-clause-gone : goal.returns-clause-gone
returns-clause-gone g t c =
    rounds_then g.S.Source.faults g.S.Source.label g.K.Source.faults g.K.Source.label c.args.rounds.now _ c.audit_from.new.rounds
    (rounds_set g.S.Source.faults g.S.Source.label g.K.Source.faults g.K.Source.label c.args.rounds.now c.args.at c.round-desks.result.now c.audit_desks.new.desks c.round-desks.ensures.value c.audit_desks.ensures.gone)
    c.audit_from.ensures.gone
