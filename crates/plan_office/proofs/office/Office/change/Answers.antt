use Rattle.std.proofs.Common.{◌∙◌, ◌++◌, sym, ap, subst}
use Rattle.plan_schema.specs.declared.change.Entry.{Entry}
use Rattle.turn_table.specs.Story.{Added}
use Rattle.plan_book.specs.Books.{entry_for}
use Rattle.plan_office.specs.Calls.{Changes}
use Rattle.plan_office.proofs.Turns.{worn_out, worn_call, a_call, goes_on, rises}
use Rattle.plan_office.proofs.office.Office.change.Goals as goal

pub returns-in_err-held-clause-call : goal.returns-in_err-held-clause-call
returns-in_err-held-clause-call g c =
    let story = g.B.Storied.story in
    let faults = g.B.Storied.faults in
    let basis = g.B.Storied.basis in
    let work = g.B.PlanBook.work in
    let h = c.in_err-held.ensures in
    worn_call story faults basis work c.args.pass.now c.take.new.pass (Changes story faults basis work (entry_for c.args.pass.now.number c.args.line c.args.user.now c.args.change)) c.from_residual.result c.from_residual.ensures
    (worn_out c.args.pass.now c.take.new.pass c.in_err-held.field-0.0.ticket h.draws h.err h.worn h.own)

pub give_back-requires-clause-story : goal.give_back-requires-clause-story
give_back-requires-clause-story g c =
    let taken = c.in_ok-held.held.value in
    let given = c.change-answer.new.self in
    let entry : Entry = entry_for c.number-number.result c.args.line c.args.user.now c.args.change in
    let h = goes_on (g.B.Storied.basis taken) (g.B.Storied.story taken) (g.B.Storied.story given) (g.B.Storied.faults taken) (g.B.Storied.faults given) entry c.change-answer.result c.change-answer.ensures.changed.answer in
    (h.0, h.1 ∙ ap (λ s. s ++ h.0) (sym (ap (λ k. k.seen) c.in_ok-held.ensures.ok)), subst (λ n. Added n h.0) c.number-number.ensures h.2)

pub give_back-requires-clause-faults : goal.give_back-requires-clause-faults
give_back-requires-clause-faults g c =
    let taken = c.in_ok-held.held.value in
    let given = c.change-answer.new.self in
    let entry : Entry = entry_for c.number-number.result c.args.line c.args.user.now c.args.change in (
      g.B.Storied.faults taken,
      ap (λ k. k.held) c.in_ok-held.ensures.ok,
      c.change-answer.ensures.changed.later,
      rises (g.B.Storied.basis taken) (g.B.Storied.story taken) (g.B.Storied.story given) (g.B.Storied.faults taken) (g.B.Storied.faults given) entry c.change-answer.result c.change-answer.ensures.changed.answer,
    )

pub returns-clause-call : goal.returns-clause-call
returns-clause-call g c =
    let story = g.B.Storied.story in
    let faults = g.B.Storied.faults in
    let basis = g.B.Storied.basis in
    let work = g.B.PlanBook.work in
    let taken = c.in_ok-held.held.value in
    let given = c.change-answer.new.self in
    let h = c.in_ok-held.ensures in
    let e = c.give_back.ensures in
    a_call story faults basis work c.args.pass.now c.take.new.pass c.give_back.new.pass taken given (Changes story faults basis work (entry_for c.args.pass.now.number c.args.line c.args.user.now c.args.change)) c.change-answer.result c.give_back.result
    h.draws h.served h.story h.faults h.basis h.ok e.pass e.own e.holds e.answer
    (subst (λ n. Changes story faults basis work (entry_for n c.args.line c.args.user.now c.args.change) taken given c.change-answer.result) (c.number-number.ensures ∙ ap (λ k. k.number) h.ok)
    (record { changed = c.change-answer.ensures.changed; worked = c.change-answer.ensures.worked }))
