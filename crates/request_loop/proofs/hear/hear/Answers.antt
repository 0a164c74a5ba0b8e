use Rattle.std.proofs.Common.{◌∙◌, refl, sym, subst, inl}
use Rattle.std.specs.Prelude.{option_map}
use Rattle.session_rules.specs.Requests.{Line}
use Rattle.request_loop.specs.Gathered.{AreGathered}
use Rattle.request_loop.specs.Heard.{IsHeard}
use Rattle.request_loop.proofs.LeftOver.{none_begun, one_begun}
use Rattle.request_loop.proofs.hear.hear.Goals as goal

pub returns-then-is_blank_text-clause-heard : goal.returns-then-is_blank_text-clause-heard
returns-then-is_blank_text-clause-heard g c kept h =
    record { next = kept; gathered = h; none = inl (sym (c.is_blank_text.ensures c.args.number) ∙ c.if-is_blank_text.true, refl); same = refl; user_is = refl; page_is = refl; taken_is = refl }

pub returns-in-Some-clause-heard : goal.returns-in-Some-clause-heard
returns-in-Some-clause-heard g c kept h =
    let line : Line = (c.args.number, option_map (λ text. text.now) c.args.line) in
    let begun = one_begun kept c.in-Some.begun (subst (AreGathered kept) (sym c.in-Some.ensures.value) h) in
    subst (λ k. IsHeard (g.A.Answers.gives c.args.answers.now) (g.A.Answers.stops c.args.answers.now) g.K.Sink.taken c.args.state.now c.hear_row.new.state c.args.user.now c.args.user.now k c.hear_row.new.rows line c.args.page.now.items c.hear_row.new.page.items c.args.sink.now c.hear_row.new.sink c.hear_row.result) (sym begun.1)
    (c.hear_row.ensures.heard begun.0 begun.2 begun.3 (sym (c.is_blank_text.ensures c.args.number) ∙ c.if-is_blank_text.false))

pub returns-in-None-clause-heard : goal.returns-in-None-clause-heard
returns-in-None-clause-heard g c kept h =
    let line : Line = (c.args.number, option_map (λ text. text.now) c.args.line) in
    subst (λ k. IsHeard (g.A.Answers.gives c.args.answers.now) (g.A.Answers.stops c.args.answers.now) g.K.Sink.taken c.args.state.now c.hear_request.new.state c.args.user.now c.hear_request.new.user k c.hear_request.new.rows line c.args.page.now.items c.hear_request.new.page.items c.args.sink.now c.hear_request.new.sink c.hear_request.result)
    (sym (none_begun kept (subst (AreGathered kept) (sym c.in-None.ensures.value) h))) (c.hear_request.ensures.heard (sym (c.is_blank_text.ensures c.args.number) ∙ c.if-is_blank_text.false))
