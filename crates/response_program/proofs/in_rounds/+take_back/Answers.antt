use Rattle.std.proofs.Common.{rules, arith, ◌++◌, ◌∷◌, length, refl, sym, ap, subst, ◌∙◌}
use Rattle.std.specs.Prelude.{map, option_map, IsNone}
use Rattle.program_words.specs.Rounds.{pair_of}
use Rattle.response_program.specs.Outcomes.{outcome_of, stop_by, first_or_memory, stop_in_rounds}
use Rattle.response_program.specs.InRounds.{desk_at, desks_at}
use Rattle.byte_lines.specs.Desks.{all_desks}
use Rattle.response_program.proofs.Filling.{last_taken, back_seen, back_stop, no_back}
use Rattle.response_program.proofs.in_rounds.+take_back.Goals as goal

pub named-requires-clause-source : goal.named-requires-clause-source
named-requires-clause-source g _ c =
    (last_taken g.S.Source.left g.S.Source.faults g.S.Source.label g.K.Sink.taken g.K.Sink.faults g.K.Sink.label c.args.pairs.now c.in-Some.rest.now c.in-Some.placed.now c.args.rounds.now c.pop.new.self c.pop.result c.in-Some-pop.desk
    c.in-Some.ensures.cases.0 c.in-Some-pop.is c.pop.ensures.taken c.requires.labelled).source ∙ ap (λ pair. pair.input) (sym c.of-pair.ensures)

pub named-requires-clause-sink : goal.named-requires-clause-sink
named-requires-clause-sink g _ c =
    (last_taken g.S.Source.left g.S.Source.faults g.S.Source.label g.K.Sink.taken g.K.Sink.faults g.K.Sink.label c.args.pairs.now c.in-Some.rest.now c.in-Some.placed.now c.args.rounds.now c.pop.new.self c.pop.result c.in-Some-pop.desk
    c.in-Some.ensures.cases.0 c.in-Some-pop.is c.pop.ensures.taken c.requires.labelled).sink ∙ ap (λ pair. pair.output) (sym c.of-pair.ensures)

pub take_back-earlier-requires : goal.take_back-earlier-requires
take_back-earlier-requires g _ c κs within = (
  search rules,
  (
    search rules,
    (
      search rules,
      (
        (last_taken g.S.Source.left g.S.Source.faults g.S.Source.label g.K.Sink.taken g.K.Sink.faults g.K.Sink.label c.args.pairs.now c.in-Some.rest.now c.in-Some.placed.now c.args.rounds.now c.pop.new.self c.pop.result
            c.in-Some-pop.desk c.in-Some.ensures.cases.0 c.in-Some-pop.is c.pop.ensures.taken c.requires.labelled).others,
        omega (arith, c.requires.room, c.in-Some.ensures.cases.1, c.push_front_reserved.ensures.len, c.push_front_reserved.ensures.capacity),
      ),
    ),
  ),
)

pub returns-in-None-pop-clause-desks : goal.returns-in-None-pop-clause-desks
returns-in-None-pop-clause-desks g _ c =
    let none = no_back g.S.Source.left g.S.Source.faults g.S.Source.label g.K.Sink.taken g.K.Sink.faults g.K.Sink.label c.args.pairs.now c.args.rounds.now (c.pop.ensures.none.0 (subst IsNone (sym c.in-None-pop.is) refl)) in
    sym (ap (λ ds. ds ++ c.args.waiting.now.items) none.0)

pub returns-in-None-pop-clause-stop : goal.returns-in-None-pop-clause-stop
returns-in-None-pop-clause-stop g _ c =
    sym (no_back g.S.Source.left g.S.Source.faults g.S.Source.label g.K.Sink.taken g.K.Sink.faults g.K.Sink.label c.args.pairs.now c.args.rounds.now (c.pop.ensures.none.0 (subst IsNone (sym c.in-None-pop.is) refl))).1

pub returns-in-Some-pop-clause-desks : goal.returns-in-Some-pop-clause-desks
returns-in-Some-pop-clause-desks g _ c =
    let items = c.args.waiting.now.items in
    let desk = c.in-Some-pop.desk in
    let front = desks_at g.S.Source.left g.S.Source.faults g.K.Sink.taken g.K.Sink.faults (map pair_of c.in-Some.rest.now) (all_desks c.pop.new.self) in
    c.take_back-earlier.ensures.desks
    ∙ ap (λ more. front ++ more) (c.push_front_reserved.ensures.items ∙ ap (λ first. first ∷ items) (c.named.ensures ∙ ap (λ pair. desk_at g.S.Source.left g.S.Source.faults g.K.Sink.taken g.K.Sink.faults pair desk) c.of-pair.ensures))
    ∙ back_seen g.S.Source.left g.S.Source.faults g.S.Source.label g.K.Sink.taken g.K.Sink.faults g.K.Sink.label c.args.pairs.now c.in-Some.rest.now c.in-Some.placed.now c.args.rounds.now c.pop.new.self c.pop.result desk
    c.in-Some.ensures.cases.0 c.in-Some-pop.is c.pop.ensures.taken c.requires.labelled items

pub returns-in-Some-pop-clause-stop : goal.returns-in-Some-pop-clause-stop
returns-in-Some-pop-clause-stop g _ c =
    let desk = c.in-Some-pop.desk in
    let here = c.stop_at-stop.ensures ∙ ap (λ pair. stop_by pair (length c.args.pairs.now) desk.served) c.of-pair.ensures in
    c.first_or_memory.ensures
    ∙ ap (λ first. first_or_memory first (option_map outcome_of c.stop_at-stop.result)) c.take_back-earlier.ensures.stop
    ∙ ap (λ last. first_or_memory (stop_in_rounds 1 (map pair_of c.in-Some.rest.now) (map (λ d. d.served) (all_desks c.pop.new.self))) last) here
    ∙ back_stop g.S.Source.left g.S.Source.faults g.S.Source.label g.K.Sink.taken g.K.Sink.faults g.K.Sink.label c.args.pairs.now c.in-Some.rest.now c.in-Some.placed.now c.args.rounds.now c.pop.new.self c.pop.result desk
    c.in-Some.ensures.cases.0 c.in-Some-pop.is c.pop.ensures.taken c.requires.labelled
