use Rattle.std.proofs.Common.{◌++◌, ap, ◌∙◌}
use Rattle.std.proofs.lemmas.Result.{err_from_is_err_and}
use Rattle.command_words.specs.Replies.{ended}
use Rattle.plan_make.specs.Numbers.{after}
use Rattle.plan_make.specs.Input.{put_text, plan_text, turn_text}
use Rattle.plan_make.proofs.Gathering.{both_are, short_in}
use Rattle.plan_make.proofs.input.put_turn.Goals as goal

pub returns-in_err-put_line-clause-text : goal.returns-in_err-put_line-clause-text
unfolding turn_text
returns-in_err-put_line-clause-text g c =
    let p = err_from_is_err_and c.from_residual.result c.from_residual.ensures.1 in
    let rest = ended (plan_text c.args.parts (after 2 c.args.numbers.now)) in
    rw (p.1, p.2) (short_in g.S.Sink.taken g.S.Sink.faults g.S.Sink.label _ _ _ _ _ (ended c.as_slice.result.now) rest _ _ _ c.in_err-put_line.was c.put_line.ensures (ap (λ t. ended t ++ rest) (c.as_slice.ensures.value ∙ c.put_bytes.ensures.line)))

pub returns-clause-text : goal.returns-clause-text
unfolding turn_text
returns-clause-text g c =
    let first = c.as_slice.ensures.value ∙ c.put_bytes.ensures.line in
    let second = c.as_slice-2.ensures.value ∙ c.plan_bytes.ensures.line ∙ ap (plan_text c.args.parts) c.put_bytes.ensures.state in
    both_are g.S.Sink.taken g.S.Sink.faults g.S.Sink.label _ _ _ _ _ _ (ended c.as_slice.result.now) (ended c.as_slice-2.result.now) (turn_text c.args.parts c.args.numbers.now) _ _ _ c.in_ok-put_line.was c.put_line.ensures c.put_line-2.ensures
    (ap (λ t. ended t ++ ended c.as_slice-2.result.now) first ∙ ap (λ t. ended (put_text c.args.parts c.args.numbers.now) ++ ended t) second)
