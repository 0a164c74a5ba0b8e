use Rattle.std.proofs.Common.{◌≡◌, ◌∙◌, sym, ap, subst}
use Rattle.plan_office.specs.Turns.{has_failed}
use Rattle.plan_core.specs.Reclaims.{IsReclaimed}
use Rattle.plan_book.specs.Books.{state_by, point_by}
use Rattle.plan_office.specs.Calls.{Reclaims}
use Rattle.plan_office.proofs.Turns.{worn_out, worn_call, a_call, if_ok, on_ok, on_err, wants_memory, may_count, none_fails}
use Rattle.plan_office.proofs.office.Office.reclaim.Goals as goal

pub returns-in_err-held-clause-call : goal.returns-in_err-held-clause-call
returns-in_err-held-clause-call g c =
    let story = g.B.Storied.story in
    let faults = g.B.Storied.faults in
    let basis = g.B.Storied.basis in
    let work = g.B.PlanBook.work in
    let h = c.in_err-held.ensures in
    worn_call story faults basis work c.args.pass.now c.take.new.pass (Reclaims story faults basis work) c.from_residual.result c.from_residual.ensures
    (worn_out c.args.pass.now c.take.new.pass c.in_err-held.field-0.0.ticket h.draws h.err h.worn h.own)

pub returns-clause-call : goal.returns-clause-call
returns-clause-call g c =
    let story = g.B.Storied.story in
    let faults = g.B.Storied.faults in
    let basis = g.B.Storied.basis in
    let work = g.B.PlanBook.work in
    let taken = c.in_ok-held.held.value in
    let given = c.reclaim.new.self in
    let h = c.in_ok-held.ensures in
    let e = c.give_back.ensures in
    a_call story faults basis work c.args.pass.now c.take.new.pass c.give_back.new.pass taken given (Reclaims story faults basis work) c.for_memory-answer.result c.give_back.result
    h.draws h.served h.story h.faults h.basis h.ok e.pass e.own e.holds e.answer
    (subst (λ r. Reclaims story faults basis work taken given r) (sym c.for_memory-answer.ensures)
    (record {
      told = c.reclaim.ensures.told;
      point = if_ok (λ point. point ≡ point_by story basis taken) c.reclaim.result c.reclaim.ensures.point;
      ok = on_ok (IsReclaimed (state_by story basis work taken) (state_by story basis work given)) c.reclaim.result c.reclaim.ensures.ok;
      kept = on_err (work given ≡ work taken) c.reclaim.result c.reclaim.ensures.err;
      err = wants_memory c.reclaim.result;
    }))

pub give_back-requires-clause-faults : goal.give_back-requires-clause-faults
give_back-requires-clause-faults g c =
    may_count c.take.new.pass (g.B.Storied.faults c.in_ok-held.held.value) (g.B.Storied.faults c.reclaim.new.self) (has_failed c.for_memory-answer.result) (ap (λ k. k.held) c.in_ok-held.ensures.ok) c.reclaim.ensures.told.later
    (ap has_failed c.for_memory-answer.ensures ∙ none_fails c.reclaim.result)
