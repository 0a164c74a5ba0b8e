use Rattle.std.proofs.lemmas.Result.{err_from_is_err_and}
use Rattle.command_words.proofs.Pages.{gathered_written, gathered_front}
use Rattle.plan_make.specs.Input.{requests_text}
use Rattle.plan_make.proofs.input.write_input.Goals as goal

pub returns : goal.returns
returns g c = gathered_written g.S.Sink.taken g.S.Sink.faults g.S.Sink.label _ _ _ _ _ (requests_text c.args.parts c.args.numbers.now) _ _ _ c.new-page.ensures c.in_ok-put_input.was c.put_input.ensures c.flush.ensures.wrote

pub returns-in_err-put_input : goal.returns-in_err-put_input
returns-in_err-put_input g c =
    let p = err_from_is_err_and c.from_residual.result c.from_residual.ensures.1 in
    rw (p.1, p.2) (gathered_front g.S.Sink.taken g.S.Sink.faults g.S.Sink.label _ _ _ _ (requests_text c.args.parts c.args.numbers.now) _ _ c.new-page.ensures c.in_err-put_input.was c.put_input.ensures)
