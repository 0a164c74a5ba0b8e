use Rattle.std.proofs.Common.{refl, sym, subst}
use Rattle.plan_book.specs.Books.{state_by}
use Rattle.plan_book.specs.Answers.{IsTree}
use Rattle.plan_office.specs.Calls.{TellsTree}
use Rattle.plan_office.proofs.Turns.{worn_out, worn_call, a_call, if_ok, wants_memory}
use Rattle.plan_office.proofs.office.Office.tree.Goals as goal

pub returns-in_err-held-clause-call : goal.returns-in_err-held-clause-call
returns-in_err-held-clause-call g c =
    let story = g.B.Storied.story in
    let faults = g.B.Storied.faults in
    let basis = g.B.Storied.basis in
    let work = g.B.PlanBook.work in
    let h = c.in_err-held.ensures in
    worn_call story faults basis work c.args.pass.now c.take.new.pass (TellsTree story faults basis work c.args.user.now) c.from_residual.result c.from_residual.ensures
    (worn_out c.args.pass.now c.take.new.pass c.in_err-held.field-0.0.ticket h.draws h.err h.worn h.own)

pub returns-clause-call : goal.returns-clause-call
returns-clause-call g c =
    let story = g.B.Storied.story in
    let faults = g.B.Storied.faults in
    let basis = g.B.Storied.basis in
    let work = g.B.PlanBook.work in
    let taken = c.in_ok-held.held.value in
    let given = taken in
    let h = c.in_ok-held.ensures in
    let e = c.give_back.ensures in
    a_call story faults basis work c.args.pass.now c.take.new.pass c.give_back.new.pass taken given (TellsTree story faults basis work c.args.user.now) c.for_memory-answer.result c.give_back.result
    h.draws h.served h.story h.faults h.basis h.ok e.pass e.own e.holds e.answer
    (subst (λ r. TellsTree story faults basis work c.args.user.now taken taken r) (sym c.for_memory-answer.ensures)
    (record { same = refl; ok = if_ok (IsTree (state_by story basis work taken) c.args.user.now) c.tree.result c.tree.ensures; err = wants_memory c.tree.result }))
