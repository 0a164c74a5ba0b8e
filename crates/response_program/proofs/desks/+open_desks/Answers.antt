use Rattle.std.proofs.Common.{◌++◌, ◌∷◌, [], append-nil, sym, ap, subst, ◌∙◌}
use Rattle.std.specs.Prelude.{map}
use Rattle.std.proofs.lemmas.List.{append_assoc}
use Rattle.program_words.specs.Rounds.{pair_of}
use Rattle.response_program.specs.Outcomes.{outcome_of}
use Rattle.response_program.specs.Views.{view}
use Rattle.response_program.specs.Desks as desks
use Rattle.response_program.specs.Desks.{DeskView, Opens, StopsOpening, IsOpened, IsUnopened}
use Rattle.response_program.proofs.Queues.{nothing, on_ok, if_err}
use Rattle.response_program.proofs.desks.+open_desks.Goals as goal

pub returns-in-None-clause-ok : goal.returns-in-None-clause-ok
returns-in-None-clause-ok g _ c =
    let shelf = view g.H.Shelf.held g.H.Shelf.open_faults g.H.Shelf.read_faults g.H.Shelf.write_faults c.args.shelf.now in (
      [],
      sym (append-nil c.args.waiting.now.items),
      subst (λ pairs. Opens shelf (map pair_of pairs) [] shelf) (sym (nothing c.args.pairs.now c.in-None.ensures.cases)) (desks.none shelf),
    )

pub returns-in-Ok-clause-ok : goal.returns-in-Ok-clause-ok
returns-in-Ok-clause-ok g _ c =
    let old = view g.H.Shelf.held g.H.Shelf.open_faults g.H.Shelf.read_faults g.H.Shelf.write_faults c.args.shelf.now in
    let between = view g.H.Shelf.held g.H.Shelf.open_faults g.H.Shelf.read_faults g.H.Shelf.write_faults c.open_desk.new.shelf in
    let new = view g.H.Shelf.held g.H.Shelf.open_faults g.H.Shelf.read_faults g.H.Shelf.write_faults c.open_desks.new.shelf in
    on_ok c.open_desks.result (λ opened. (
      c.in-Ok.desk ∷ opened.0,
      opened.1 ∙ ap (λ items. items ++ opened.0) c.put_desk.ensures.items ∙ append_assoc c.args.waiting.now.items (c.in-Ok.desk ∷ []) opened.0,
      subst (λ pairs. Opens old (map pair_of pairs) (c.in-Ok.desk ∷ opened.0) new) (sym c.in-Some.ensures.cases.0)
          (desks.more old between new (pair_of c.in-Some.placed.now) c.in-Ok.desk (map pair_of c.in-Some.rest.now) opened.0 (subst (λ pair. IsOpened old pair c.in-Ok.desk between) c.of.ensures c.in-Ok.ensures.ok) opened.2),
    )) c.open_desks.ensures.ok

pub returns-in-Ok-clause-err : goal.returns-in-Ok-clause-err
returns-in-Ok-clause-err g _ c =
    let old = view g.H.Shelf.held g.H.Shelf.open_faults g.H.Shelf.read_faults g.H.Shelf.write_faults c.args.shelf.now in
    let between = view g.H.Shelf.held g.H.Shelf.open_faults g.H.Shelf.read_faults g.H.Shelf.write_faults c.open_desk.new.shelf in
    let new = view g.H.Shelf.held g.H.Shelf.open_faults g.H.Shelf.read_faults g.H.Shelf.write_faults c.open_desks.new.shelf in
    if_err c.open_desks.result (λ ending opened. (
      c.in-Ok.desk ∷ opened.0,
      opened.1 ∙ ap (λ items. items ++ opened.0) c.put_desk.ensures.items ∙ append_assoc c.args.waiting.now.items (c.in-Ok.desk ∷ []) opened.0,
      subst (λ pairs. StopsOpening old (map pair_of pairs) (c.in-Ok.desk ∷ opened.0) (outcome_of ending) new) (sym c.in-Some.ensures.cases.0)
          (desks.later old between new (pair_of c.in-Some.placed.now) c.in-Ok.desk (map pair_of c.in-Some.rest.now) opened.0 (outcome_of ending) (subst (λ pair. IsOpened old pair c.in-Ok.desk between) c.of.ensures c.in-Ok.ensures.ok) opened.2),
    )) c.open_desks.ensures.err

pub returns-in-Err-clause-err : goal.returns-in-Err-clause-err
returns-in-Err-clause-err g _ c =
    let old = view g.H.Shelf.held g.H.Shelf.open_faults g.H.Shelf.read_faults g.H.Shelf.write_faults c.args.shelf.now in
    let new = view g.H.Shelf.held g.H.Shelf.open_faults g.H.Shelf.read_faults g.H.Shelf.write_faults c.open_desk.new.shelf in (
      [],
      sym (append-nil c.args.waiting.now.items),
      subst (λ pairs. StopsOpening old (map pair_of pairs) [] (outcome_of c.in-Err.ending) new) (sym c.in-Some.ensures.cases.0)
          (desks.here old new (pair_of c.in-Some.placed.now) (map pair_of c.in-Some.rest.now) (outcome_of c.in-Err.ending) (subst (λ pair. IsUnopened old pair (outcome_of c.in-Err.ending) new) c.of.ensures c.in-Err.ensures.err)),
    )
