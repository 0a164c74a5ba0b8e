use Rattle.std.proofs.Common.{◌++◌, ◌∙◌, length, Some, refl, sym, ap, subst}
use Rattle.std.specs.Prelude.{unwrap_or}
use Rattle.plan_book.proofs.Told.{entries_back}
use Rattle.response_program.specs.declared.ending.Totals.{Totals}
use Rattle.response_program.specs.Desks.{DeskView, IsOpened, IsGivenBack}
use Rattle.response_program.specs.InRounds.{desk_at}
use Rattle.response_program.specs.Names.{pair_of}
use Rattle.response_program.specs.Views.{view}
use Rattle.response_program.specs.Outcomes.{outcome_of, Done}
use Rattle.response_program.specs.Replayed.{HasShown}
use Rattle.response_program.proofs.Shown.{has_shown, still_served}
use Rattle.response_program.proofs.Replays.{not_shown}
use Rattle.response_program.proofs.replay.show.Goals as goal

pub returns-in-Err : goal.returns-in-Err
returns-in-Err g c =
    let old = view g.H.Shelf.held g.H.Shelf.open_faults g.H.Shelf.read_faults g.H.Shelf.write_faults c.args.shelf.now in
    let new = view g.H.Shelf.held g.H.Shelf.open_faults g.H.Shelf.read_faults g.H.Shelf.write_faults c.open_desk.new.shelf in
    let book = c.args.book in
    not_shown old new (pair_of c.args.pair.now) book.base (book.earlier ++ book.entries) (outcome_of c.in-Err.ending) c.in-Err.ensures.err c.in-Err.ensures.which

pub returns : goal.returns
returns g c =
    let old = view g.H.Shelf.held g.H.Shelf.open_faults g.H.Shelf.read_faults g.H.Shelf.write_faults c.args.shelf.now in
    let opened = view g.H.Shelf.held g.H.Shelf.open_faults g.H.Shelf.read_faults g.H.Shelf.write_faults c.open_desk.new.shelf in
    let new = view g.H.Shelf.held g.H.Shelf.open_faults g.H.Shelf.read_faults g.H.Shelf.write_faults c.close_desk.new.shelf in
    let pair = pair_of c.args.pair.now in
    let book = c.args.book in
    let entries = book.earlier ++ book.entries in
    let fresh = c.into_desk-desk.result in
    let served = c.serve_alone-served.result in
    let totals : Totals = record { entries = c.point-entries.result; work = Some c.tally.result } in
    let desk : DeskView = desk_at g.H.In.Source.left g.H.In.Source.faults g.H.Out.Sink.taken g.H.Out.Sink.faults c.in-Ok.desk.pair fresh in
    let then : DeskView = record {
      pair = pair;
      left = g.H.In.Source.left c.serve_alone-served.new.source;
      reads = g.H.In.Source.faults c.serve_alone-served.new.source;
      taken = g.H.Out.Sink.taken c.serve_alone-served.new.sink;
      writes = g.H.Out.Sink.faults c.serve_alone-served.new.sink;
    } in
    subst (HasShown old new pair book.base entries) (sym (c.of_sessions.ensures ∙ ap (λ stop. unwrap_or stop (Done totals)) c.of_stop.ensures))
    (has_shown old opened new pair book.base entries desk then totals (subst (λ d. IsOpened old pair d opened) c.into_desk-desk.ensures.view c.in-Ok.ensures.ok)
    (subst (λ d. IsGivenBack opened d new) c.named.ensures c.close_desk.ensures) refl (c.point-entries.ensures ∙ ap (λ es. length (book.earlier ++ es)) (entries_back book.entries)) refl
    served c.serve_alone-served.ensures.cause.reads_failed c.serve_alone-served.ensures.cause.writes_failed
    (λ input is. still_served book c.serve_alone-served.new.book input desk.taken then.taken served (c.serve_alone-served.ensures.served input is)))
