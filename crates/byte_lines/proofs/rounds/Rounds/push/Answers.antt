use Rattle.std.proofs.Common.{◌≡◌, ◌∙◌, ◌-◌, ◌++◌, ◌∷◌, [], sym, ap, length, slice_set, arith}
use Rattle.std.proofs.lemmas.Result.{on_ok_weaker}
use Rattle.byte_lines.specs.Desks.{with_desk}
use Rattle.byte_lines.proofs.DeskSteps.{with_desk-set}
use Rattle.byte_lines.proofs.rounds.Rounds.push.Goals as goal

pub returns-clause-ok : goal.returns-clause-ok
returns-clause-ok g c =
    let items = c.self.inside.rounds.items in
    let round = c.index_mut-round.result.now in
    on_ok_weaker c.push.result (λ (e : c.push.new.self ≡ round ++ c.args.desk ∷ []).
    ap (slice_set items (c.len-last.result - 1)) e
    ∙ with_desk-set items round c.args.desk (c.len-last.result - 1) (omega (arith, ap length c.self.view_is, c.requires)) (sym c.index_mut-round.ensures.value)
    ∙ ap (λ rounds. with_desk rounds c.args.desk) c.self.view_is)
    c.push.ensures.ok
