use Rattle.response_program.specs.Views.{view}
use Rattle.response_program.proofs.Queues.{few_desks}
use Rattle.response_program.proofs.run.run_in_order.Goals as goal

pub serve_desks-stop-requires-clause-most : goal.serve_desks-stop-requires-clause-most
serve_desks-stop-requires-clause-most g c =
    let old = view g.H.Shelf.held g.H.Shelf.open_faults g.H.Shelf.read_faults g.H.Shelf.write_faults c.args.shelf.now in
    let new = view g.H.Shelf.held g.H.Shelf.open_faults g.H.Shelf.read_faults g.H.Shelf.write_faults c.open_all.new.shelf in
    few_desks old new c.args.pairs.now c.in_ok-waiting.waiting.items c.in_ok-waiting.ensures.ok c.requires.pairs
