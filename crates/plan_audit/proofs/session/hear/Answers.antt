use Rattle.std.proofs.Common.{◌≡◌, true, false, None, Ok, Err, sym, ap, ◌∙◌, subst}
use Rattle.session_rules.specs.Requests.{guest}
use Rattle.request_loop.specs.declared.answers.Why.TheVariants as whys
use Rattle.request_loop.specs.Serving.{is_past_limit, why_of}
use Rattle.plan_audit.specs.declared.session.Hearing.{Hearing}
use Rattle.plan_audit.specs.declared.session.SessionFault.TheVariants as session
use Rattle.plan_audit.specs.Inputs.{heard}
use Rattle.plan_audit.specs.Judging.{Seen, all_seen}
use Rattle.plan_audit.specs.Cases.{terms_of, seen_by}
use Rattle.plan_audit.specs.Sessions.{to_read, AreSeen, IsHeardTo}
use Rattle.plan_audit.proofs.Heard.{served_stays, stopped_rose, whole_seen, long_seen, stop_seen}
use Rattle.plan_audit.proofs.session.hear.Goals as goal

pub returns-in-Ended-clause-name : goal.returns-in-Ended-clause-name
returns-in-Ended-clause-name g c = (served_stays (λ (h : Hearing g.row.K.Denot). h.judge) (λ (h : Hearing g.row.K.Denot). h.output.now) (λ (h : Hearing g.row.K.Denot). h.output.ghost_name) (λ (h : Hearing g.row.K.Denot). h.halt) g.K.Source.left g.K.Source.faults g.K.Source.label (terms_of c.args.hearer.now.case) c.args.hearing.now c.serve_requests.new.state c.serve_requests.ensures.served.input None None c.serve_requests.result c.serve_requests.ensures.served.serves).0

pub returns-in-Ended-clause-output : goal.returns-in-Ended-clause-output
returns-in-Ended-clause-output g c = (served_stays (λ (h : Hearing g.row.K.Denot). h.judge) (λ (h : Hearing g.row.K.Denot). h.output.now) (λ (h : Hearing g.row.K.Denot). h.output.ghost_name) (λ (h : Hearing g.row.K.Denot). h.halt) g.K.Source.left g.K.Source.faults g.K.Source.label (terms_of c.args.hearer.now.case) c.args.hearing.now c.serve_requests.new.state c.serve_requests.ensures.served.input None None c.serve_requests.result c.serve_requests.ensures.served.serves).1

pub returns-in-ReadFault-clause-name : goal.returns-in-ReadFault-clause-name
returns-in-ReadFault-clause-name g c = (served_stays (λ (h : Hearing g.row.K.Denot). h.judge) (λ (h : Hearing g.row.K.Denot). h.output.now) (λ (h : Hearing g.row.K.Denot). h.output.ghost_name) (λ (h : Hearing g.row.K.Denot). h.halt) g.K.Source.left g.K.Source.faults g.K.Source.label (terms_of c.args.hearer.now.case) c.args.hearing.now c.serve_requests.new.state c.serve_requests.ensures.served.input None None c.serve_requests.result c.serve_requests.ensures.served.serves).0

pub returns-in-ReadFault-clause-output : goal.returns-in-ReadFault-clause-output
returns-in-ReadFault-clause-output g c = (served_stays (λ (h : Hearing g.row.K.Denot). h.judge) (λ (h : Hearing g.row.K.Denot). h.output.now) (λ (h : Hearing g.row.K.Denot). h.output.ghost_name) (λ (h : Hearing g.row.K.Denot). h.halt) g.K.Source.left g.K.Source.faults g.K.Source.label (terms_of c.args.hearer.now.case) c.args.hearing.now c.serve_requests.new.state c.serve_requests.ensures.served.input None None c.serve_requests.result c.serve_requests.ensures.served.serves).1

pub returns-in-Limit-clause-name : goal.returns-in-Limit-clause-name
returns-in-Limit-clause-name g c = (served_stays (λ (h : Hearing g.row.K.Denot). h.judge) (λ (h : Hearing g.row.K.Denot). h.output.now) (λ (h : Hearing g.row.K.Denot). h.output.ghost_name) (λ (h : Hearing g.row.K.Denot). h.halt) g.K.Source.left g.K.Source.faults g.K.Source.label (terms_of c.args.hearer.now.case) c.args.hearing.now c.serve_requests.new.state c.serve_requests.ensures.served.input None None c.serve_requests.result c.serve_requests.ensures.served.serves).0

pub returns-in-Limit-clause-output : goal.returns-in-Limit-clause-output
returns-in-Limit-clause-output g c = (served_stays (λ (h : Hearing g.row.K.Denot). h.judge) (λ (h : Hearing g.row.K.Denot). h.output.now) (λ (h : Hearing g.row.K.Denot). h.output.ghost_name) (λ (h : Hearing g.row.K.Denot). h.halt) g.K.Source.left g.K.Source.faults g.K.Source.label (terms_of c.args.hearer.now.case) c.args.hearing.now c.serve_requests.new.state c.serve_requests.ensures.served.input None None c.serve_requests.result c.serve_requests.ensures.served.serves).1

pub returns-in-BookFault-clause-name : goal.returns-in-BookFault-clause-name
returns-in-BookFault-clause-name g c = (served_stays (λ (h : Hearing g.row.K.Denot). h.judge) (λ (h : Hearing g.row.K.Denot). h.output.now) (λ (h : Hearing g.row.K.Denot). h.output.ghost_name) (λ (h : Hearing g.row.K.Denot). h.halt) g.K.Source.left g.K.Source.faults g.K.Source.label (terms_of c.args.hearer.now.case) c.args.hearing.now c.serve_requests.new.state c.serve_requests.ensures.served.input None None c.serve_requests.result c.serve_requests.ensures.served.serves).0

pub returns-in-BookFault-clause-output : goal.returns-in-BookFault-clause-output
returns-in-BookFault-clause-output g c = (served_stays (λ (h : Hearing g.row.K.Denot). h.judge) (λ (h : Hearing g.row.K.Denot). h.output.now) (λ (h : Hearing g.row.K.Denot). h.output.ghost_name) (λ (h : Hearing g.row.K.Denot). h.halt) g.K.Source.left g.K.Source.faults g.K.Source.label (terms_of c.args.hearer.now.case) c.args.hearing.now c.serve_requests.new.state c.serve_requests.ensures.served.input None None c.serve_requests.result c.serve_requests.ensures.served.serves).1

pub returns-in-Worn-clause-name : goal.returns-in-Worn-clause-name
returns-in-Worn-clause-name g c = (served_stays (λ (h : Hearing g.row.K.Denot). h.judge) (λ (h : Hearing g.row.K.Denot). h.output.now) (λ (h : Hearing g.row.K.Denot). h.output.ghost_name) (λ (h : Hearing g.row.K.Denot). h.halt) g.K.Source.left g.K.Source.faults g.K.Source.label (terms_of c.args.hearer.now.case) c.args.hearing.now c.serve_requests.new.state c.serve_requests.ensures.served.input None None c.serve_requests.result c.serve_requests.ensures.served.serves).0

pub returns-in-Worn-clause-output : goal.returns-in-Worn-clause-output
returns-in-Worn-clause-output g c = (served_stays (λ (h : Hearing g.row.K.Denot). h.judge) (λ (h : Hearing g.row.K.Denot). h.output.now) (λ (h : Hearing g.row.K.Denot). h.output.ghost_name) (λ (h : Hearing g.row.K.Denot). h.halt) g.K.Source.left g.K.Source.faults g.K.Source.label (terms_of c.args.hearer.now.case) c.args.hearing.now c.serve_requests.new.state c.serve_requests.ensures.served.input None None c.serve_requests.result c.serve_requests.ensures.served.serves).1

pub returns-in-WriteFault-clause-name : goal.returns-in-WriteFault-clause-name
returns-in-WriteFault-clause-name g c = (served_stays (λ (h : Hearing g.row.K.Denot). h.judge) (λ (h : Hearing g.row.K.Denot). h.output.now) (λ (h : Hearing g.row.K.Denot). h.output.ghost_name) (λ (h : Hearing g.row.K.Denot). h.halt) g.K.Source.left g.K.Source.faults g.K.Source.label (terms_of c.args.hearer.now.case) c.args.hearing.now c.serve_requests.new.state c.serve_requests.ensures.served.input None None c.serve_requests.result c.serve_requests.ensures.served.serves).0

pub returns-in-WriteFault-clause-output : goal.returns-in-WriteFault-clause-output
returns-in-WriteFault-clause-output g c = (served_stays (λ (h : Hearing g.row.K.Denot). h.judge) (λ (h : Hearing g.row.K.Denot). h.output.now) (λ (h : Hearing g.row.K.Denot). h.output.ghost_name) (λ (h : Hearing g.row.K.Denot). h.halt) g.K.Source.left g.K.Source.faults g.K.Source.label (terms_of c.args.hearer.now.case) c.args.hearing.now c.serve_requests.new.state c.serve_requests.ensures.served.input None None c.serve_requests.result c.serve_requests.ensures.served.serves).1

pub returns-in-Ended-clause-heard : goal.returns-in-Ended-clause-heard
returns-in-Ended-clause-heard g c input output told is =
    subst (λ i. (is_past_limit i ≡ false) × AreSeen (terms_of c.args.hearer.now.case) c.args.hearing.now.judge c.serve_requests.new.state.judge i output (to_read g.K.Source.left g.K.Source.faults g.K.Source.label (terms_of c.args.hearer.now.case) c.serve_requests.new.state.judge c.serve_requests.new.state.output.now)) (sym (c.serve_requests.ensures.served.told input told))
    (whole_seen (λ (h : Hearing g.row.K.Denot). h.judge) (λ (h : Hearing g.row.K.Denot). h.output.now) (λ (h : Hearing g.row.K.Denot). h.output.ghost_name) (λ (h : Hearing g.row.K.Denot). h.halt) g.K.Source.left g.K.Source.faults g.K.Source.label (terms_of c.args.hearer.now.case) c.args.hearing.now c.serve_requests.new.state c.serve_requests.ensures.served.input None None c.serve_requests.result c.serve_requests.ensures.served.serves output is c.in-Ended.field-0 c.in-Ended.is)

pub returns-in-Limit-clause-heard : goal.returns-in-Limit-clause-heard
returns-in-Limit-clause-heard g c input output told is =
    subst (λ i. (is_past_limit i ≡ true) × ((x : Seen) × (all_seen c.args.hearer.now.case.base.now c.args.hearer.now.case.entries.now c.args.hearer.now.case.session c.args.hearer.now.case.floor c.args.hearer.now.case.ceiling (seen_by c.args.hearing.now.judge guest output) (heard i) ≡ Ok x))) (sym (c.serve_requests.ensures.served.told input told))
    (long_seen (λ (h : Hearing g.row.K.Denot). h.judge) (λ (h : Hearing g.row.K.Denot). h.output.now) (λ (h : Hearing g.row.K.Denot). h.output.ghost_name) (λ (h : Hearing g.row.K.Denot). h.halt) g.K.Source.left g.K.Source.faults g.K.Source.label (terms_of c.args.hearer.now.case) c.args.hearing.now c.serve_requests.new.state c.serve_requests.ensures.served.input None None c.serve_requests.result c.serve_requests.ensures.served.serves output is c.in-Limit.is)

pub returns-in-BookFault-clause-fault : goal.returns-in-BookFault-clause-fault
returns-in-BookFault-clause-fault g c is =
    let e : c.why_halted.result ≡ session.Output = cc in
    stopped_rose (λ (h : Hearing g.row.K.Denot). h.judge) (λ (h : Hearing g.row.K.Denot). h.output.now) (λ (h : Hearing g.row.K.Denot). h.output.ghost_name) (λ (h : Hearing g.row.K.Denot). h.halt) g.K.Source.left g.K.Source.faults g.K.Source.label (terms_of c.args.hearer.now.case) c.args.hearing.now c.serve_requests.new.state c.serve_requests.ensures.served.input None None c.serve_requests.result c.serve_requests.ensures.served.serves whys.Failed (ap why_of c.in-BookFault.is) (sym c.why_halted.ensures ∙ e)

pub returns-in-BookFault-clause-heard : goal.returns-in-BookFault-clause-heard
returns-in-BookFault-clause-heard g c input output told is =
    subst (λ i. IsHeardTo (terms_of c.args.hearer.now.case) c.args.hearing.now.judge c.serve_requests.new.state.judge i output (to_read g.K.Source.left g.K.Source.faults g.K.Source.label (terms_of c.args.hearer.now.case) c.serve_requests.new.state.judge c.serve_requests.new.state.output.now) (Err c.why_halted.result)) (sym (c.serve_requests.ensures.served.told input told))
    (subst (λ f. IsHeardTo (terms_of c.args.hearer.now.case) c.args.hearing.now.judge c.serve_requests.new.state.judge c.serve_requests.ensures.served.input output (to_read g.K.Source.left g.K.Source.faults g.K.Source.label (terms_of c.args.hearer.now.case) c.serve_requests.new.state.judge c.serve_requests.new.state.output.now) (Err f)) (sym c.why_halted.ensures)
    (stop_seen (λ (h : Hearing g.row.K.Denot). h.judge) (λ (h : Hearing g.row.K.Denot). h.output.now) (λ (h : Hearing g.row.K.Denot). h.output.ghost_name) (λ (h : Hearing g.row.K.Denot). h.halt) g.K.Source.left g.K.Source.faults g.K.Source.label (terms_of c.args.hearer.now.case) c.args.hearing.now c.serve_requests.new.state c.serve_requests.ensures.served.input None None c.serve_requests.result c.serve_requests.ensures.served.serves output is whys.Failed (ap why_of c.in-BookFault.is)))

pub returns-in-Worn-clause-fault : goal.returns-in-Worn-clause-fault
returns-in-Worn-clause-fault g c is =
    let e : c.why_halted-in-Worn.result ≡ session.Output = cc in
    stopped_rose (λ (h : Hearing g.row.K.Denot). h.judge) (λ (h : Hearing g.row.K.Denot). h.output.now) (λ (h : Hearing g.row.K.Denot). h.output.ghost_name) (λ (h : Hearing g.row.K.Denot). h.halt) g.K.Source.left g.K.Source.faults g.K.Source.label (terms_of c.args.hearer.now.case) c.args.hearing.now c.serve_requests.new.state c.serve_requests.ensures.served.input None None c.serve_requests.result c.serve_requests.ensures.served.serves whys.Worn (ap why_of c.in-Worn.is) (sym c.why_halted-in-Worn.ensures ∙ e)

pub returns-in-Worn-clause-heard : goal.returns-in-Worn-clause-heard
returns-in-Worn-clause-heard g c input output told is =
    subst (λ i. IsHeardTo (terms_of c.args.hearer.now.case) c.args.hearing.now.judge c.serve_requests.new.state.judge i output (to_read g.K.Source.left g.K.Source.faults g.K.Source.label (terms_of c.args.hearer.now.case) c.serve_requests.new.state.judge c.serve_requests.new.state.output.now) (Err c.why_halted-in-Worn.result)) (sym (c.serve_requests.ensures.served.told input told))
    (subst (λ f. IsHeardTo (terms_of c.args.hearer.now.case) c.args.hearing.now.judge c.serve_requests.new.state.judge c.serve_requests.ensures.served.input output (to_read g.K.Source.left g.K.Source.faults g.K.Source.label (terms_of c.args.hearer.now.case) c.serve_requests.new.state.judge c.serve_requests.new.state.output.now) (Err f)) (sym c.why_halted-in-Worn.ensures)
    (stop_seen (λ (h : Hearing g.row.K.Denot). h.judge) (λ (h : Hearing g.row.K.Denot). h.output.now) (λ (h : Hearing g.row.K.Denot). h.output.ghost_name) (λ (h : Hearing g.row.K.Denot). h.halt) g.K.Source.left g.K.Source.faults g.K.Source.label (terms_of c.args.hearer.now.case) c.args.hearing.now c.serve_requests.new.state c.serve_requests.ensures.served.input None None c.serve_requests.result c.serve_requests.ensures.served.serves output is whys.Worn (ap why_of c.in-Worn.is)))
