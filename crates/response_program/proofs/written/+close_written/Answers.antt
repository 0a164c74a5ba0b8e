use Rattle.std.proofs.Common.{rules, ◌∷◌, [], map, refl, sym, ap, subst, ◌∙◌}
use Rattle.std.specs.Prelude.{IsNone, IfSome}
use Rattle.std.proofs.lemmas.List.{map-append}
use Rattle.program_words.specs.Rounds.{pair_of}
use Rattle.response_program.specs.Names as names
use Rattle.response_program.specs.Views.{view}
use Rattle.response_program.specs.Written.{CanGoBack, IsUnreadOf}
use Rattle.response_program.proofs.ToRead.{taken_back, none_unread, first_unread}
use Rattle.response_program.proofs.written.+close_written.Goals as goal

pub close_pair-unread-requires : goal.close_pair-unread-requires
close_pair-unread-requires g t c =
    subst (λ pair. CanGoBack g.H.In.Source.left g.H.In.Source.faults g.H.In.Source.label pair c.in-Some-pop.desk) (sym c.of.ensures)
    (taken_back g.H.In.Source.left g.H.In.Source.faults g.H.In.Source.label c.args.pairs.now c.in-Some.rest.now c.in-Some.placed.now c.args.rounds.now c.pop.new.self c.pop.result c.in-Some-pop.desk
    c.in-Some.ensures.cases.0 c.in-Some-pop.is c.pop.ensures.taken c.requires).1

pub close_written-earlier-requires : goal.close_written-earlier-requires
close_written-earlier-requires g t c κs within = (
  search rules,
  (
    search rules,
    (
      search rules,
      (
        search rules,
        (taken_back g.H.In.Source.left g.H.In.Source.faults g.H.In.Source.label c.args.pairs.now c.in-Some.rest.now c.in-Some.placed.now c.args.rounds.now c.pop.new.self c.pop.result c.in-Some-pop.desk
            c.in-Some.ensures.cases.0 c.in-Some-pop.is c.pop.ensures.taken c.requires).0,
      ),
    ),
  ),
)

pub returns-in-None-pop-clause-told : goal.returns-in-None-pop-clause-told
returns-in-None-pop-clause-told g t c = none_unread c.args.rounds.now (c.pop.ensures.none.0 (subst IsNone (sym c.in-None-pop.is) refl))

pub returns-in-Some-pop-clause-which : goal.returns-in-Some-pop-clause-which
returns-in-Some-pop-clause-which g t c =
    let old = view g.H.Shelf.held g.H.Shelf.open_faults g.H.Shelf.read_faults g.H.Shelf.write_faults c.args.shelf.now in
    let mid = view g.H.Shelf.held g.H.Shelf.open_faults g.H.Shelf.read_faults g.H.Shelf.write_faults c.close_pair-unread.new.shelf in
    let new = view g.H.Shelf.held g.H.Shelf.open_faults g.H.Shelf.read_faults g.H.Shelf.write_faults c.close_written-earlier.new.shelf in
    let rest = map pair_of c.in-Some.rest.now in
    let last = pair_of c.in-Some.placed.now in
    subst (λ found. IfSome found (λ name. IsUnreadOf old new (map pair_of c.args.pairs.now) name.now)) (sym c.or.ensures)
    (first_unread c.close_written-earlier.result c.close_pair-unread.result (λ name. name.now) old mid new (map pair_of c.args.pairs.now) rest (names.pair_of c.of.result) last
    (ap (map pair_of) c.in-Some.ensures.cases.0 ∙ map-append pair_of c.in-Some.rest.now (c.in-Some.placed.now ∷ [])) c.of.ensures c.close_pair-unread.ensures.fell c.close_written-earlier.ensures.fell
    c.close_written-earlier.ensures.which c.close_pair-unread.ensures.which)
