use Rattle.std.proofs.Common.{refl}
use Rattle.std.proofs.lemmas.Result.{err_from_is_err_and}
use Rattle.command_words.proofs.Pages.{gathered_then}
use Rattle.plan_make.specs.Base.{base_head, parts_text, base_text}
use Rattle.plan_make.proofs.Gathering.{short_in}
use Rattle.plan_make.proofs.base.put_base.Goals as goal

pub returns-clause-text : goal.returns-clause-text
unfolding base_text
returns-clause-text g c =
    gathered_then g.S.Sink.taken g.S.Sink.faults g.S.Sink.label _ _ _ _ _ _ base_head (parts_text c.args.parts c.args.parts c.args.numbers.now) _ _ _ c.in_ok-put_line.was c.put_line.ensures c.put_parts.ensures.text

pub returns-in_err-put_line-clause-text : goal.returns-in_err-put_line-clause-text
unfolding base_text
returns-in_err-put_line-clause-text g c =
    let p = err_from_is_err_and c.from_residual.result c.from_residual.ensures.1 in
    rw (p.1, p.2) (short_in g.S.Sink.taken g.S.Sink.faults g.S.Sink.label _ _ _ _ _ base_head (parts_text c.args.parts c.args.parts c.args.numbers.now) _ _ _ c.in_err-put_line.was c.put_line.ensures refl)
