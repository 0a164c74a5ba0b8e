use Rattle.response_program.specs.Names.{files_of}
use Rattle.response_program.specs.Outcomes.{outcome_of}
use Rattle.response_program.specs.Views.{view}
use Rattle.response_program.proofs.Audits.{audits_on, no_history}
use Rattle.response_program.proofs.audit.audit_files.Goals as goal

pub returns-in-Ok : goal.returns-in-Ok
returns-in-Ok g c =
    let old = view g.H.Shelf.held g.H.Shelf.open_faults g.H.Shelf.read_faults g.H.Shelf.write_faults c.args.shelf.now in
    let mid = view g.H.Shelf.held g.H.Shelf.open_faults g.H.Shelf.read_faults g.H.Shelf.write_faults c.read_history.new.shelf in
    let new = view g.H.Shelf.held g.H.Shelf.open_faults g.H.Shelf.read_faults g.H.Shelf.write_faults c.audit_behind.new.shelf in
    audits_on old mid new (files_of c.args.files.now) (outcome_of c.audit_behind.result) c.requires.files c.read_history.ensures.fell c.read_history.ensures.held c.audit_behind.ensures

-- the base or the journal wasn't read
pub returns-in-Err : goal.returns-in-Err
returns-in-Err g c =
    let old = view g.H.Shelf.held g.H.Shelf.open_faults g.H.Shelf.read_faults g.H.Shelf.write_faults c.args.shelf.now in
    let new = view g.H.Shelf.held g.H.Shelf.open_faults g.H.Shelf.read_faults g.H.Shelf.write_faults c.read_history.new.shelf in
    no_history old new (files_of c.args.files.now) (outcome_of c.in-Err.ending) c.read_history.ensures.fell c.read_history.ensures.held c.in-Err.ensures.cause c.in-Err.ensures.why
