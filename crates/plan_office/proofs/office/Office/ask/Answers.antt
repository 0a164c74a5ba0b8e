use Rattle.std.proofs.Common.{ap, refl}
use Rattle.plan_book.specs.Books.{state_by}
use Rattle.plan_office.specs.Turns.{has_failed}
use Rattle.plan_office.specs.Calls.{Asks}
use Rattle.plan_office.proofs.Turns.{worn_out, worn_call, a_call, may_count, itself, asking_stands}
use Rattle.plan_office.proofs.office.Office.ask.Goals as goal

pub returns-in_err-held-clause-call : goal.returns-in_err-held-clause-call
returns-in_err-held-clause-call g c =
    let story = g.B.Storied.story in
    let faults = g.B.Storied.faults in
    let basis = g.B.Storied.basis in
    let work = g.B.PlanBook.work in
    let h = c.in_err-held.ensures in
    worn_call story faults basis work c.args.pass.now c.take.new.pass (Asks story faults basis work c.args.user.now c.args.scenario.now c.args.wanted) c.from_residual.result c.from_residual.ensures
    (worn_out c.args.pass.now c.take.new.pass c.in_err-held.field-0.0.ticket h.draws h.err h.worn h.own)

pub returns-clause-call : goal.returns-clause-call
returns-clause-call g c =
    let story = g.B.Storied.story in
    let faults = g.B.Storied.faults in
    let basis = g.B.Storied.basis in
    let work = g.B.PlanBook.work in
    let taken = c.in_ok-held.held.value in
    let given = taken in
    let h = c.in_ok-held.ensures in
    let e = c.give_back.ensures in
    a_call story faults basis work c.args.pass.now c.take.new.pass c.give_back.new.pass taken given (Asks story faults basis work c.args.user.now c.args.scenario.now c.args.wanted) c.ask-answer.result c.give_back.result
    h.draws h.served h.story h.faults h.basis h.ok e.pass e.own e.holds e.answer
    (record { same = refl; ok = c.ask-answer.ensures.ok; err = c.ask-answer.ensures.err })

pub give_back-requires-clause-faults : goal.give_back-requires-clause-faults
give_back-requires-clause-faults g c =
    let faults = g.B.Storied.faults c.in_ok-held.held.value in
    may_count c.take.new.pass faults faults (has_failed c.ask-answer.result) (ap (λ k. k.held) c.in_ok-held.ensures.ok) (itself faults)
    (asking_stands (state_by g.B.Storied.story g.B.Storied.basis g.B.PlanBook.work c.in_ok-held.held.value) c.args.user.now c.args.scenario.now c.ask-answer.result c.ask-answer.ensures.err)
