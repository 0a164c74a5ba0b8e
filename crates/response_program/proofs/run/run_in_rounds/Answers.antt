use Rattle.std.proofs.Common.{map, subst}
use Rattle.program_words.specs.Rounds.{pair_of}
use Rattle.response_program.specs.Views.{view}
use Rattle.response_program.specs.Outcomes.{NoMemory, outcome_of}
use Rattle.response_program.specs.Desks.{StopsOpening, HasServedNone}
use Rattle.response_program.proofs.Queues.{err_none, stops_full}
use Rattle.response_program.proofs.Comes.{opens_named}
use Rattle.response_program.proofs.run.run_in_rounds.Goals as goal

pub serve_in_rounds-ran-requires-clause-named : goal.serve_in_rounds-ran-requires-clause-named
serve_in_rounds-ran-requires-clause-named g c κs within =
    let old = view g.H.Shelf.held g.H.Shelf.open_faults g.H.Shelf.read_faults g.H.Shelf.write_faults c.args.shelf.now in
    let mid = view g.H.Shelf.held g.H.Shelf.open_faults g.H.Shelf.read_faults g.H.Shelf.write_faults c.open_all.new.shelf in
    opens_named old mid (map pair_of c.args.pairs.now) c.in_ok-waiting.waiting.items c.in_ok-waiting.ensures.ok

pub returns-clause-err : goal.returns-clause-err
returns-clause-err g c =
    let old = view g.H.Shelf.held g.H.Shelf.open_faults g.H.Shelf.read_faults g.H.Shelf.write_faults c.args.shelf.now in
    let mid = view g.H.Shelf.held g.H.Shelf.open_faults g.H.Shelf.read_faults g.H.Shelf.write_faults c.open_all.new.shelf in
    let new = view g.H.Shelf.held g.H.Shelf.open_faults g.H.Shelf.read_faults g.H.Shelf.write_faults c.close_desks.new.shelf in
    let opens = c.in_ok-waiting.ensures.ok in
    err_none c.serve_in_rounds-ran.result outcome_of (HasServedNone old new (map pair_of c.args.pairs.now)) c.serve_in_rounds-ran.ensures.memory c.serve_in_rounds-ran.ensures.left (λ left.
    record {
      opened = mid;
      gone = left.0;
      desks = c.serve_in_rounds-ran.new.waiting.items;
      stops = subst (λ ds. StopsOpening old (map pair_of c.args.pairs.now) ds NoMemory mid) left.1 (stops_full old mid (map pair_of c.args.pairs.now) c.in_ok-waiting.waiting.items opens);
      closed = c.close_desks.ensures.given;
    })
