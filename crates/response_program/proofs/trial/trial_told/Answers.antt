use Rattle.std.proofs.Common.{◌∙◌, Err, ap}
use Rattle.response_program.specs.Names.{console}
use Rattle.response_program.specs.Outcomes.{outcome_of, status_of}
use Rattle.response_program.specs.Views.{view}
use Rattle.response_program.proofs.Chains.{opened}
use Rattle.response_program.proofs.Trials as trials
use Rattle.response_program.proofs.trial.trial_told.Goals as goal

pub returns : goal.returns
returns g c =
    let old = view g.H.Shelf.held g.H.Shelf.open_faults g.H.Shelf.read_faults g.H.Shelf.write_faults c.args.shelf.now in
    let mid = view g.H.Shelf.held g.H.Shelf.open_faults g.H.Shelf.read_faults g.H.Shelf.write_faults c.make_out.new.self in
    let new = view g.H.Shelf.held g.H.Shelf.open_faults g.H.Shelf.read_faults g.H.Shelf.write_faults c.tell_ending.new.shelf in
    trials.trial_told old mid new c.args.parts c.args.start (outcome_of c.trial-ending.result) (g.H.Out.Sink.taken c.in-Ok.console) c.tell_ending.result
    (opened old mid console c.make_out.result c.make_out.ensures.cause c.make_out.ensures.reads c.make_out.ensures.writes) c.make_out.ensures.others
    (λ tells. c.in-Ok.ensures.empty (tells console)) c.trial-ending.ensures c.tell_ending.ensures

-- the console couldn't be made
pub returns-in-Err : goal.returns-in-Err
returns-in-Err g c =
    let old = view g.H.Shelf.held g.H.Shelf.open_faults g.H.Shelf.read_faults g.H.Shelf.write_faults c.args.shelf.now in
    let new = view g.H.Shelf.held g.H.Shelf.open_faults g.H.Shelf.read_faults g.H.Shelf.write_faults c.make_out.new.self in
    trials.no_console_tried old new c.args.parts c.args.start c.in-Err.fault c.status.result (c.status.ensures.value ∙ ap status_of c.of_open.ensures)
    (opened old new console c.make_out.result c.make_out.ensures.cause c.make_out.ensures.reads c.make_out.ensures.writes)
    (λ is. c.make_out.ensures.cause.failed (c.in-Err.is ∙ ap Err is)) c.make_out.ensures.others
