use Rattle.std.proofs.Common.{◌++◌, [], Ok, subst, sym, ap, ◌∙◌}
use Rattle.std.proofs.lemmas.Result.{err_from_is_err_and}
use Rattle.command_words.specs.Pages.{Gathered}
use Rattle.command_words.specs.Replies.{ended}
use Rattle.plan_make.specs.Numbers.{after}
use Rattle.plan_make.specs.Base.{bill_line, drawn_bill, second_text, has_one_bill, bills_text}
use Rattle.std.specs.Prelude.{if◌then◌else◌}
use Rattle.plan_make.proofs.Gathering.{on_ok_always}
use Rattle.plan_make.proofs.Bills.{bills_one, behind_one, bills_two, behind_two}
use Rattle.plan_make.proofs.Gathering.{both_are, short_in}
use Rattle.plan_make.proofs.base.put_bills.Goals as goal

pub returns-in_err-put_line-clause-text : goal.returns-in_err-put_line-clause-text
unfolding bills_text
returns-in_err-put_line-clause-text g c =
    let p = err_from_is_err_and c.from_residual.result c.from_residual.ensures.1 in
    let state = c.args.numbers.now in
    let line = c.as_slice.ensures.value ∙ c.bill_line.ensures ∙ ap (bill_line c.args.part) (c.draw_bill-first.ensures.bill ∙ ap (drawn_bill c.args.part) c.draw-has_one.ensures.state) in
    let rest = if has_one_bill state then [] else second_text c.args.part (drawn_bill c.args.part (after 1 state)) (drawn_bill c.args.part (after 3 state)) in
    rw (p.1, p.2) (short_in g.S.Sink.taken g.S.Sink.faults g.S.Sink.label _ _ _ _ _ (ended c.as_slice.result.now) rest _ _ _ c.in_err-put_line.was c.put_line.ensures (ap (λ t. ended t ++ rest) line))

pub returns-then-has_one-clause-text : goal.returns-then-has_one-clause-text
returns-then-has_one-clause-text g c =
    let state = c.args.numbers.now in
    let line = c.as_slice.ensures.value ∙ c.bill_line.ensures ∙ ap (bill_line c.args.part) (c.draw_bill-first.ensures.bill ∙ ap (drawn_bill c.args.part) c.draw-has_one.ensures.state) in
    subst (λ t. Gathered {T = Unit {0}} g.S.Sink.taken g.S.Sink.faults g.S.Sink.label c.args.sink.now c.put_line.new.sink c.args.page.now.items c.put_line.new.page.items t (Ok tt))
    (ap ended line ∙ bills_one c.args.part state (sym c.draw-has_one.ensures.value ∙ c.if-has_one.true))
    (subst (λ r. Gathered g.S.Sink.taken g.S.Sink.faults g.S.Sink.label c.args.sink.now c.put_line.new.sink c.args.page.now.items c.put_line.new.page.items (ended c.as_slice.result.now) r) c.in_ok-put_line.was c.put_line.ensures)

pub returns-then-has_one-clause-state : goal.returns-then-has_one-clause-state
returns-then-has_one-clause-state g c =
    c.draw_bill-first.ensures.state ∙ ap (after 2) c.draw-has_one.ensures.state ∙ behind_one c.args.numbers.now (sym c.draw-has_one.ensures.value ∙ c.if-has_one.true)

pub returns-clause-text : goal.returns-clause-text
returns-clause-text g c =
    let part = c.args.part in
    let state = c.args.numbers.now in
    let first = c.draw_bill-first.ensures.bill ∙ ap (drawn_bill part) c.draw-has_one.ensures.state in
    let behind = c.draw_bill-first.ensures.state ∙ ap (after 2) c.draw-has_one.ensures.state in
    let second = c.draw_bill-second.ensures.bill ∙ ap (drawn_bill part) behind in
    both_are g.S.Sink.taken g.S.Sink.faults g.S.Sink.label _ _ _ _ _ _ (ended c.as_slice.result.now) (second_text part c.draw_bill-first.result c.draw_bill-second.result) (bills_text part state) _ _ _ c.in_ok-put_line.was c.put_line.ensures c.put_second.ensures
    (ap (λ t. ended t ++ second_text part c.draw_bill-first.result c.draw_bill-second.result) (c.as_slice.ensures.value ∙ c.bill_line.ensures)
    ∙ ap (λ b. ended (bill_line part b) ++ second_text part b c.draw_bill-second.result) first
    ∙ ap (λ b. ended (bill_line part (drawn_bill part (after 1 state))) ++ second_text part (drawn_bill part (after 1 state)) b) second
    ∙ bills_two part state (λ e. c.if-has_one.false (c.draw-has_one.ensures.value ∙ e)))

pub returns-clause-state : goal.returns-clause-state
returns-clause-state g c =
    let behind = c.draw_bill-first.ensures.state ∙ ap (after 2) c.draw-has_one.ensures.state in
    on_ok_always c.put_second.result
    (c.draw_bill-second.ensures.state ∙ ap (after 2) behind ∙ behind_two c.args.numbers.now (λ e. c.if-has_one.false (c.draw-has_one.ensures.value ∙ e)))
