use Rattle.std.proofs.Common.{◌++◌, ap, ◌∙◌, append_assoc}
use Rattle.std.proofs.lemmas.Result.{err_from_is_err_and}
use Rattle.command_words.specs.Replies.{ended}
use Rattle.command_words.proofs.Pages.{gathered_then}
use Rattle.plan_make.specs.Numbers.{after, next}
use Rattle.plan_make.specs.Base.{part_line, stock_line, needs_text, part_text}
use Rattle.plan_make.proofs.Gathering.{both_are, short_in}
use Rattle.plan_make.proofs.base.put_part.Goals as goal

pub returns-in_err-put_line-clause-text : goal.returns-in_err-put_line-clause-text
unfolding part_text
returns-in_err-put_line-clause-text g c =
    let p = err_from_is_err_and c.from_residual.result c.from_residual.ensures.1 in
    let rest = ended (stock_line c.args.part (after 3 c.args.numbers.now)) ++ needs_text c.args.parts c.args.part (after 4 c.args.numbers.now) in
    rw (p.1, p.2) (short_in g.S.Sink.taken g.S.Sink.faults g.S.Sink.label _ _ _ _ _ (ended c.as_slice.result.now) rest _ _ _ c.in_err-put_line.was c.put_line.ensures (ap (λ t. ended t ++ rest) (c.as_slice.ensures.value ∙ c.part_line.ensures.line)))

pub returns-in_err-put_line-2-clause-text : goal.returns-in_err-put_line-2-clause-text
unfolding part_text
returns-in_err-put_line-2-clause-text g c =
    let p = err_from_is_err_and c.from_residual-in_err-put_line-2.result c.from_residual-in_err-put_line-2.ensures.1 in
    let first = c.as_slice.ensures.value ∙ c.part_line.ensures.line in
    let second = c.as_slice-2.ensures.value ∙ c.stock_line.ensures.line ∙ ap (stock_line c.args.part) c.part_line.ensures.state in
    let rest = needs_text c.args.parts c.args.part (after 4 c.args.numbers.now) in
    let both = gathered_then g.S.Sink.taken g.S.Sink.faults g.S.Sink.label _ _ _ _ _ _ (ended c.as_slice.result.now) (ended c.as_slice-2.result.now) _ _ _ c.in_ok-put_line.was c.put_line.ensures c.put_line-2.ensures in
    rw (p.1, p.2) (short_in g.S.Sink.taken g.S.Sink.faults g.S.Sink.label _ _ _ _ _ (ended c.as_slice.result.now ++ ended c.as_slice-2.result.now) rest _ _ _ c.in_err-put_line-2.was both
    (append_assoc (ended c.as_slice.result.now) (ended c.as_slice-2.result.now) rest ∙ ap (λ t. ended t ++ (ended c.as_slice-2.result.now ++ rest)) first ∙ ap (λ t. ended (part_line c.args.part c.args.numbers.now) ++ (ended t ++ rest)) second))

pub returns-clause-text : goal.returns-clause-text
unfolding part_text
returns-clause-text g c =
    let first = c.as_slice.ensures.value ∙ c.part_line.ensures.line in
    let second = c.as_slice-2.ensures.value ∙ c.stock_line.ensures.line ∙ ap (stock_line c.args.part) c.part_line.ensures.state in
    let behind = c.stock_line.ensures.state ∙ ap next c.part_line.ensures.state in
    let needs = needs_text c.args.parts c.args.part c.stock_line.new.numbers in
    let more = gathered_then g.S.Sink.taken g.S.Sink.faults g.S.Sink.label _ _ _ _ _ _ (ended c.as_slice-2.result.now) needs _ _ _ c.in_ok-put_line-2.was c.put_line-2.ensures c.put_needs.ensures.text in
    both_are g.S.Sink.taken g.S.Sink.faults g.S.Sink.label _ _ _ _ _ _ (ended c.as_slice.result.now) (ended c.as_slice-2.result.now ++ needs) (part_text c.args.parts c.args.part c.args.numbers.now) _ _ _ c.in_ok-put_line.was c.put_line.ensures more
    (ap (λ t. ended t ++ (ended c.as_slice-2.result.now ++ needs)) first ∙ ap (λ t. ended (part_line c.args.part c.args.numbers.now) ++ (ended t ++ needs)) second
    ∙ ap (λ s. ended (part_line c.args.part c.args.numbers.now) ++ (ended (stock_line c.args.part (after 3 c.args.numbers.now)) ++ needs_text c.args.parts c.args.part s)) behind)
