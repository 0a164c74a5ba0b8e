use Rattle.std.proofs.Common.{rules, ◌<◌, length, sym, subst}
use Rattle.response_program.specs.InRounds.{begun}
use Rattle.response_program.specs.Views.{view}
use Rattle.response_program.specs.Written.{IsDeskOf}
use Rattle.response_program.proofs.Filled.{some_then}
use Rattle.response_program.proofs.Queues.{on_ok}
use Rattle.response_program.proofs.ToRead.{seat_more}
use Rattle.response_program.proofs.written.+open_written.Goals as goal

pub open_written-requires : goal.open_written-requires
open_written-requires g t c κs within =
    let placed = c.in-Some.placed.now in (
      search rules,
      (
        search rules,
        (
          search rules,
          (
            search rules,
            subst (λ rounds. 0 < length (begun placed.ends_round rounds)) (sym c.in-Ok.ensures) (some_then placed.ends_round c.args.begins c.args.rounds.now c.in_ok-desk-in-Some.desk c.requires.some),
          ),
        ),
      ),
    )

pub returns-in-Ok-clause-ok : goal.returns-in-Ok-clause-ok
returns-in-Ok-clause-ok g t c =
    let old = view g.H.Shelf.held g.H.Shelf.open_faults g.H.Shelf.read_faults g.H.Shelf.write_faults c.args.shelf.now in
    let mid = view g.H.Shelf.held g.H.Shelf.open_faults g.H.Shelf.read_faults g.H.Shelf.write_faults c.open_pair.new.shelf in
    let placed = c.in-Some.placed.now in
    let desk = c.in_ok-desk-in-Some.desk in
    on_ok c.open_written.result (λ h.
    seat_more g.H.In.Source.left g.H.In.Source.faults g.H.In.Source.label old mid c.args.begins c.args.rounds.now c.seat_desk.new.rounds c.open_written.new.rounds c.args.pairs.now c.in-Some.rest.now placed desk c.in-Some.ensures.cases.0
    c.open_pair.ensures.held (subst (λ pair. IsDeskOf g.H.In.Source.left g.H.In.Source.faults g.H.In.Source.label old pair desk) c.of.ensures c.in_ok-desk-in-Some.ensures.ok) c.in-Ok.ensures h) c.open_written.ensures.ok
