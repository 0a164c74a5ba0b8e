use Rattle.std.proofs.lemmas.Result.{err_from_is_err_and}
use Rattle.command_words.proofs.Pages.{gathered_written, gathered_front}
use Rattle.plan_make.specs.Base.{base_text}
use Rattle.plan_make.proofs.Gathering.{on_ok_always}
use Rattle.plan_make.proofs.base.write_base.Goals as goal

pub returns-clause-wrote : goal.returns-clause-wrote
returns-clause-wrote g c = gathered_written g.S.Sink.taken g.S.Sink.faults g.S.Sink.label _ _ _ _ _ (base_text c.args.parts c.args.numbers.now) _ _ _ c.new-page.ensures c.in_ok-put_base.was c.put_base.ensures.text c.flush.ensures.wrote

pub returns-clause-state : goal.returns-clause-state
returns-clause-state g c = on_ok_always c.flush.result c.in_ok-put_base.ensures.state

pub returns-in_err-put_base-clause-wrote : goal.returns-in_err-put_base-clause-wrote
returns-in_err-put_base-clause-wrote g c =
    let p = err_from_is_err_and c.from_residual.result c.from_residual.ensures.1 in
    rw (p.1, p.2) (gathered_front g.S.Sink.taken g.S.Sink.faults g.S.Sink.label _ _ _ _ (base_text c.args.parts c.args.numbers.now) _ _ c.new-page.ensures c.in_err-put_base.was c.put_base.ensures.text)
