use Rattle.response_program.specs.Views.{view}
use Rattle.response_program.specs.Outcomes.{outcome_of}
use Rattle.response_program.proofs.Histories.{journal_then}
use Rattle.response_program.proofs.history.read_history.Goals as goal

pub returns-in-Err-clause-why : goal.returns-in-Err-clause-why
returns-in-Err-clause-why g c =
    let old = view g.H.Shelf.held g.H.Shelf.open_faults g.H.Shelf.read_faults g.H.Shelf.write_faults c.args.shelf.now in
    let mid = view g.H.Shelf.held g.H.Shelf.open_faults g.H.Shelf.read_faults g.H.Shelf.write_faults c.read_base.new.shelf in
    journal_then old mid c.args.base.now c.args.journal.now c.in_ok-contents.contents (outcome_of c.in-Err.ending) c.read_base.ensures.held c.in_ok-contents.ensures.reads c.in-Err.ensures.why
