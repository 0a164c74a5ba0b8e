use Rattle.std.proofs.Common.{◌++◌, refl, append_assoc}
use Rattle.std.proofs.lemmas.Result.{err_from_is_err_and}
use Rattle.command_words.proofs.Pages.{gathered_then}
use Rattle.plan_make.specs.Input.{opening, closing, turns_text, requests_text}
use Rattle.plan_make.proofs.Gathering.{short_in}
use Rattle.plan_make.proofs.input.put_input.Goals as goal

pub returns : goal.returns
unfolding requests_text
returns g c =
    let turns = turns_text c.args.parts 20 c.args.numbers.now in
    let more = gathered_then g.S.Sink.taken g.S.Sink.faults g.S.Sink.label _ _ _ _ _ _ turns closing _ _ _ c.in_ok-put_turns.was c.put_turns.ensures c.put_line-2.ensures in
    gathered_then g.S.Sink.taken g.S.Sink.faults g.S.Sink.label _ _ _ _ _ _ opening (turns ++ closing) _ _ _ c.in_ok-put_line.was c.put_line.ensures more

pub returns-in_err-put_line : goal.returns-in_err-put_line
unfolding requests_text
returns-in_err-put_line g c =
    let p = err_from_is_err_and c.from_residual.result c.from_residual.ensures.1 in
    let turns = turns_text c.args.parts 20 c.args.numbers.now in
    rw (p.1, p.2) (short_in g.S.Sink.taken g.S.Sink.faults g.S.Sink.label _ _ _ _ _ opening (turns ++ closing) _ _ _ c.in_err-put_line.was c.put_line.ensures refl)

pub returns-in_err-put_turns : goal.returns-in_err-put_turns
unfolding requests_text
returns-in_err-put_turns g c =
    let p = err_from_is_err_and c.from_residual-in_err-put_turns.result c.from_residual-in_err-put_turns.ensures.1 in
    let turns = turns_text c.args.parts 20 c.args.numbers.now in
    let both = gathered_then g.S.Sink.taken g.S.Sink.faults g.S.Sink.label _ _ _ _ _ _ opening turns _ _ _ c.in_ok-put_line.was c.put_line.ensures c.put_turns.ensures in
    rw (p.1, p.2) (short_in g.S.Sink.taken g.S.Sink.faults g.S.Sink.label _ _ _ _ _ (opening ++ turns) closing _ _ _ c.in_err-put_turns.was both (append_assoc opening turns closing))
