use Rattle.std.proofs.Common.{◌∙◌, sym, ap, subst}
use Rattle.version_rules.specs.Meaning.{meaning_after}
use Rattle.walk_rules.specs.Cells.{Stands}
use Rattle.plan_core.specs.Rounds.{HasRound, IsCutShort}
use Rattle.plan_book.specs.Books.{history, state_by}
use Rattle.plan_office.specs.Turns.{has_failed}
use Rattle.plan_office.specs.Calls.{MakesRound}
use Rattle.plan_office.proofs.Turns.{worn_out, worn_call, a_call, if_ok, on_err, wants_memory, may_count, none_fails, stand_taken, stand_given}
use Rattle.plan_office.proofs.office.Office.round.Goals as goal

pub returns-in_err-held-clause-call : goal.returns-in_err-held-clause-call
returns-in_err-held-clause-call g c =
    let story = g.B.Storied.story in
    let faults = g.B.Storied.faults in
    let basis = g.B.Storied.basis in
    let work = g.B.PlanBook.work in
    let h = c.in_err-held.ensures in
    worn_call story faults basis work c.args.pass.now c.take.new.pass (MakesRound story faults basis work c.args.walk.now c.args.walk.now c.args.solved) c.from_residual.result c.from_residual.ensures
    (worn_out c.args.pass.now c.take.new.pass c.in_err-held.field-0.0.ticket h.draws h.err h.worn h.own)

pub round-requires-clause-stands : goal.round-requires-clause-stands
round-requires-clause-stands g c =
    let h = c.in_ok-held.ensures in
    stand_taken c.args.pass.now (g.B.Storied.basis c.in_ok-held.held.value) (g.B.Storied.story c.in_ok-held.held.value) c.args.walk.now.job.cells h.basis h.story.grows c.requires.stands

pub give_back-requires-clause-faults : goal.give_back-requires-clause-faults
give_back-requires-clause-faults g c =
    may_count c.take.new.pass (g.B.Storied.faults c.in_ok-held.held.value) (g.B.Storied.faults c.round.new.self) (has_failed c.for_memory-answer.result) (ap (λ k. k.held) c.in_ok-held.ensures.ok) c.round.ensures.told.later
    (ap has_failed c.for_memory-answer.ensures ∙ none_fails c.round.result)

pub returns-clause-stands : goal.returns-clause-stands
returns-clause-stands g c =
    let story = g.B.Storied.story in
    let basis = g.B.Storied.basis in
    let taken = c.in_ok-held.held.value in
    let given = c.round.new.self in
    let h = c.in_ok-held.ensures in
    let told = c.round.ensures.told in
    let stood : Stands (meaning_after (basis taken).base (history (basis taken) (story taken))) c.args.walk.now.job.cells = stand_taken c.args.pass.now (basis taken) (story taken) c.args.walk.now.job.cells h.basis h.story.grows c.requires.stands in
    stand_given c.give_back.new.pass (basis taken) (story taken) c.round.new.walk.job.cells
    (ap (λ k. k.basis) c.give_back.ensures.pass ∙ ap (λ k. k.basis) h.ok ∙ h.basis)
    (ap (λ k. k.seen) c.give_back.ensures.pass ∙ told.told)
    (subst (λ job. Stands (meaning_after (basis taken).base (history (basis taken) (story taken))) job.cells) (sym c.round.ensures.job) stood)

pub returns-clause-call : goal.returns-clause-call
returns-clause-call g c =
    let story = g.B.Storied.story in
    let faults = g.B.Storied.faults in
    let basis = g.B.Storied.basis in
    let work = g.B.PlanBook.work in
    let taken = c.in_ok-held.held.value in
    let given = c.round.new.self in
    let h = c.in_ok-held.ensures in
    let e = c.give_back.ensures in
    a_call story faults basis work c.args.pass.now c.take.new.pass c.give_back.new.pass taken given (MakesRound story faults basis work c.args.walk.now c.round.new.walk c.args.solved) c.for_memory-answer.result c.give_back.result
    h.draws h.served h.story h.faults h.basis h.ok e.pass e.own e.holds e.answer
    (subst (λ r. MakesRound story faults basis work c.args.walk.now c.round.new.walk c.args.solved taken given r) (sym c.for_memory-answer.ensures)
    (record {
      told = c.round.ensures.told;
      ok = if_ok (HasRound (state_by story basis work taken) (state_by story basis work given) c.args.walk.now c.round.new.walk c.args.solved) c.round.result c.round.ensures.ok;
      cut = on_err (IsCutShort (state_by story basis work taken) (state_by story basis work given)) c.round.result c.round.ensures.err;
      err = wants_memory c.round.result;
    }))
