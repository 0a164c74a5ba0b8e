use Rattle.std.proofs.Common.{◌∙◌, Err, ap}
use Rattle.response_program.specs.Names.{console, files_of}
use Rattle.response_program.specs.Outcomes.{outcome_of, status_of}
use Rattle.response_program.specs.Views.{view}
use Rattle.response_program.proofs.Chains.{opened}
use Rattle.response_program.proofs.Audits as audits
use Rattle.response_program.proofs.audit.audit_told.Goals as goal

pub returns : goal.returns
returns g c =
    let old = view g.H.Shelf.held g.H.Shelf.open_faults g.H.Shelf.read_faults g.H.Shelf.write_faults c.args.shelf.now in
    let mid = view g.H.Shelf.held g.H.Shelf.open_faults g.H.Shelf.read_faults g.H.Shelf.write_faults c.make_out.new.self in
    let late = view g.H.Shelf.held g.H.Shelf.open_faults g.H.Shelf.read_faults g.H.Shelf.write_faults c.audit_files-ending.new.shelf in
    let new = view g.H.Shelf.held g.H.Shelf.open_faults g.H.Shelf.read_faults g.H.Shelf.write_faults c.tell_ending.new.shelf in
    audits.audit_told old mid late new (files_of c.args.files.now) (outcome_of c.audit_files-ending.result) (g.H.Out.Sink.taken c.in-Ok.console) c.tell_ending.result c.requires.files
    (opened old mid console c.make_out.result c.make_out.ensures.cause c.make_out.ensures.reads c.make_out.ensures.writes) c.make_out.ensures.here c.make_out.ensures.others
    (λ tells. c.in-Ok.ensures.empty (tells console)) c.audit_files-ending.ensures c.tell_ending.ensures

-- the console couldn't be made
pub returns-in-Err : goal.returns-in-Err
returns-in-Err g c =
    let old = view g.H.Shelf.held g.H.Shelf.open_faults g.H.Shelf.read_faults g.H.Shelf.write_faults c.args.shelf.now in
    let new = view g.H.Shelf.held g.H.Shelf.open_faults g.H.Shelf.read_faults g.H.Shelf.write_faults c.make_out.new.self in
    audits.no_console old new (files_of c.args.files.now) c.in-Err.fault c.status.result (c.status.ensures.value ∙ ap status_of c.of_open.ensures)
    (opened old new console c.make_out.result c.make_out.ensures.cause c.make_out.ensures.reads c.make_out.ensures.writes)
    (λ is. c.make_out.ensures.cause.failed (c.in-Err.is ∙ ap Err is)) c.make_out.ensures.others
