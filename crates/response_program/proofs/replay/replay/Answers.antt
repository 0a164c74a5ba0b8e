use Rattle.std.proofs.Common.{◌∙◌, sym}
use Rattle.plan_schema.specs.Outside.{Stays}
use Rattle.response_program.specs.Views.{view}
use Rattle.response_program.specs.Outcomes.{outcome_of}
use Rattle.response_program.specs.Replayed.{replay_of}
use Rattle.response_program.proofs.Replays.{goes_on, no_history}
use Rattle.response_program.proofs.replay.replay.Goals as goal

pub returns-in-Ok : goal.returns-in-Ok
returns-in-Ok g c =
    let old = view g.H.Shelf.held g.H.Shelf.open_faults g.H.Shelf.read_faults g.H.Shelf.write_faults c.args.shelf.now in
    let late = view g.H.Shelf.held g.H.Shelf.open_faults g.H.Shelf.read_faults g.H.Shelf.write_faults c.read_history.new.shelf in
    let new = view g.H.Shelf.held g.H.Shelf.open_faults g.H.Shelf.read_faults g.H.Shelf.write_faults c.replay_behind.new.shelf in
    let names = replay_of c.args.files.now in
    let holds : Stays old.held late.held = c.read_history.ensures.held in
    goes_on old late new names (outcome_of c.replay_behind.result) c.requires c.read_history.ensures.fell holds
    (c.replay_behind.ensures (λ base is. c.in-Ok.ensures.reads_base base (sym (holds names.base) ∙ is)) (λ text is. c.in-Ok.ensures.reads_journal text (sym (holds names.journal) ∙ is)))

-- the base or the journal wasn't read
pub returns-in-Err : goal.returns-in-Err
returns-in-Err g c =
    let old = view g.H.Shelf.held g.H.Shelf.open_faults g.H.Shelf.read_faults g.H.Shelf.write_faults c.args.shelf.now in
    let new = view g.H.Shelf.held g.H.Shelf.open_faults g.H.Shelf.read_faults g.H.Shelf.write_faults c.read_history.new.shelf in
    no_history old new (replay_of c.args.files.now) (outcome_of c.in-Err.ending) c.read_history.ensures.fell c.read_history.ensures.held c.in-Err.ensures.cause c.in-Err.ensures.why
