use Rattle.std.proofs.Common.{◌<◌, true, length, sym, subst, ◌∙◌, arith}
use Rattle.std.specs.Prelude.{map, option_map}
use Rattle.program_words.specs.Rounds.{rounds_in}
use Rattle.response_program.specs.Outcomes.{outcome_of}
use Rattle.response_program.specs.InRounds.{begun, AreServedInRounds}
use Rattle.response_program.proofs.Queues.{if_ok, on_err}
use Rattle.response_program.proofs.Seated.{filled_facts}
use Rattle.response_program.proofs.in_rounds.serve_in_rounds.Goals as goal

pub fill_rounds-requires-clause-some : goal.fill_rounds-requires-clause-some
fill_rounds-requires-clause-some g c = subst (λ rounds. 0 < length (begun true rounds)) (sym c.new-rounds.ensures) (omega arith)

pub serve_filled-requires-clause-shape : goal.serve_filled-requires-clause-shape
serve_filled-requires-clause-shape g c κs within =
    (filled_facts g.S.Source.left g.S.Source.faults g.S.Source.label g.K.Sink.taken g.K.Sink.faults g.K.Sink.label c.args.pairs.now c.new-rounds.result c.fill_rounds.new.rounds c.args.waiting.now.items c.new-rounds.ensures c.in-Ok.ensures.ok).shape

pub serve_filled-requires-clause-unserved : goal.serve_filled-requires-clause-unserved
serve_filled-requires-clause-unserved g c κs within =
    (filled_facts g.S.Source.left g.S.Source.faults g.S.Source.label g.K.Sink.taken g.K.Sink.faults g.K.Sink.label c.args.pairs.now c.new-rounds.result c.fill_rounds.new.rounds c.args.waiting.now.items c.new-rounds.ensures c.in-Ok.ensures.ok).unserved

pub serve_filled-requires-clause-labelled : goal.serve_filled-requires-clause-labelled
serve_filled-requires-clause-labelled g c κs within =
    (filled_facts g.S.Source.left g.S.Source.faults g.S.Source.label g.K.Sink.taken g.K.Sink.faults g.K.Sink.label c.args.pairs.now c.new-rounds.result c.fill_rounds.new.rounds c.args.waiting.now.items c.new-rounds.ensures c.in-Ok.ensures.ok).labelled_are

pub returns-in-Ok-clause-served : goal.returns-in-Ok-clause-served
returns-in-Ok-clause-served g c =
    let facts = filled_facts g.S.Source.left g.S.Source.faults g.S.Source.label g.K.Sink.taken g.K.Sink.faults g.K.Sink.label c.args.pairs.now c.new-rounds.result c.fill_rounds.new.rounds c.args.waiting.now.items c.new-rounds.ensures c.in-Ok.ensures.ok in
    if_ok c.serve_filled.result (λ ran h.
    subst (λ items. AreServedInRounds c.args.book.base (map length (rounds_in c.args.pairs.now)) ran.book.entries items c.serve_filled.new.waiting.items (option_map outcome_of ran.stop)) (sym facts.views_are) h) c.serve_filled.ensures.served

pub returns-in-Ok-clause-left : goal.returns-in-Ok-clause-left
returns-in-Ok-clause-left g c =
    let facts = filled_facts g.S.Source.left g.S.Source.faults g.S.Source.label g.K.Sink.taken g.K.Sink.faults g.K.Sink.label c.args.pairs.now c.new-rounds.result c.fill_rounds.new.rounds c.args.waiting.now.items c.new-rounds.ensures c.in-Ok.ensures.ok in
    on_err c.serve_filled.result (λ h. (h.0, facts.views_are ∙ h.1)) c.serve_filled.ensures.left
