use Rattle.std.proofs.Common.{◌≡◌, ◌++◌, append-nil, sym, ap, subst, ◌∙◌}
use Rattle.std.specs.Prelude.{map, length, option_map, IfSome}
use Rattle.byte_lines.specs.Desks.{all_desks}
use Rattle.program_words.specs.Rounds.{pair_of, rounds_in}
use Rattle.response_program.specs.Outcomes.{outcome_of}
use Rattle.response_program.specs.InRounds.{desks_at, AreServedAt, AreServedInRounds}
use Rattle.response_program.proofs.Seated.{few, labels_after, in_rounds}
use Rattle.response_program.proofs.in_rounds.serve_filled.Goals as goal

pub serve_at_office-requires-clause-few : goal.serve_at_office-requires-clause-few
serve_at_office-requires-clause-few g c κs within =
    few g.S.Source.left g.S.Source.faults g.S.Source.label g.K.Sink.taken g.K.Sink.faults g.K.Sink.label c.args.pairs.now c.args.rounds.now c.requires.labelled c.requires.pairs

pub take_back-stop-requires-clause-labelled : goal.take_back-stop-requires-clause-labelled
take_back-stop-requires-clause-labelled g c =
    let at = subst (λ found. IfSome found (λ after. AreServedAt g.S.Source.left g.S.Source.faults g.S.Source.label g.K.Sink.taken g.K.Sink.faults g.K.Sink.label c.args.book after c.args.rounds.now c.serve_at_office.new.rounds))
    c.in-Ok-Some.field-0-is c.in-Ok-Some.ensures.served in
    labels_after g.S.Source.left g.S.Source.faults g.S.Source.label g.K.Sink.taken g.K.Sink.faults g.K.Sink.label c.args.book c.in-Ok-Some.after c.args.rounds.now c.serve_at_office.new.rounds at (map pair_of c.args.pairs.now) c.requires.labelled

pub returns-in-Ok-Some-clause-served : goal.returns-in-Ok-Some-clause-served
returns-in-Ok-Some-clause-served g c =
    let at = subst (λ found. IfSome found (λ after. AreServedAt g.S.Source.left g.S.Source.faults g.S.Source.label g.K.Sink.taken g.K.Sink.faults g.K.Sink.label c.args.book after c.args.rounds.now c.serve_at_office.new.rounds))
    c.in-Ok-Some.field-0-is c.in-Ok-Some.ensures.served in
    let named = map pair_of c.args.pairs.now in
    let after = c.in-Ok-Some.after in
    let olds = desks_at g.S.Source.left g.S.Source.faults g.K.Sink.taken g.K.Sink.faults named (all_desks c.args.rounds.now) in
    let news = desks_at g.S.Source.left g.S.Source.faults g.K.Sink.taken g.K.Sink.faults named (all_desks c.serve_at_office.new.rounds) in
    let items : c.take_back-stop.new.waiting.items ≡ news = c.take_back-stop.ensures.desks ∙ ap (λ items. news ++ items) c.requires.none ∙ append-nil news in
    let shape = map length (rounds_in c.args.pairs.now) in
    subst (λ items. AreServedInRounds c.args.book.base shape after.entries olds items (option_map outcome_of c.take_back-stop.result)) (sym items)
    (subst (λ stop. AreServedInRounds c.args.book.base shape after.entries olds news stop) (sym c.take_back-stop.ensures.stop)
    (in_rounds g.S.Source.left g.S.Source.faults g.S.Source.label g.K.Sink.taken g.K.Sink.faults g.K.Sink.label c.args.book after c.args.rounds.now c.serve_at_office.new.rounds at c.requires.first named c.requires.labelled shape
    c.requires.shape))

pub returns-in-Ok-None-clause-left : goal.returns-in-Ok-None-clause-left
returns-in-Ok-None-clause-left g c =
    let olds = desks_at g.S.Source.left g.S.Source.faults g.K.Sink.taken g.K.Sink.faults (map pair_of c.args.pairs.now) (all_desks c.args.rounds.now) in
    (olds, sym (append-nil olds) ∙ ap (λ items. olds ++ items) (sym c.requires.none))
