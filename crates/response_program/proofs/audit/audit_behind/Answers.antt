use Rattle.std.proofs.Common.{subst}
use Rattle.response_program.specs.Names.{files_of}
use Rattle.response_program.specs.Outcomes.{outcome_of}
use Rattle.response_program.specs.Views.{view}
use Rattle.response_program.specs.Written.{AreUnopened}
use Rattle.response_program.proofs.Audits.{audits_on, audit_stops, unopened}
use Rattle.response_program.proofs.Queues.{same_pairs}
use Rattle.response_program.proofs.ToRead.{opened_for}
use Rattle.response_program.proofs.audit.audit_behind.Goals as goal

pub audit_opened-requires-clause-seated : goal.audit_opened-requires-clause-seated
audit_opened-requires-clause-seated g c =
    let old = view g.H.Shelf.held g.H.Shelf.open_faults g.H.Shelf.read_faults g.H.Shelf.write_faults c.args.shelf.now in
    let mid = view g.H.Shelf.held g.H.Shelf.open_faults g.H.Shelf.read_faults g.H.Shelf.write_faults c.open_written.new.shelf in
    opened_for g.H.In.Source.left g.H.In.Source.faults g.H.In.Source.label old mid c.new-rounds.result c.open_written.new.rounds c.pairs.result.now c.args.files.now.rounds.now c.open_written.ensures.held c.new-rounds.ensures c.pairs.ensures c.in-Ok.ensures.ok

pub returns-in-Ok : goal.returns-in-Ok
returns-in-Ok g c =
    let old = view g.H.Shelf.held g.H.Shelf.open_faults g.H.Shelf.read_faults g.H.Shelf.write_faults c.args.shelf.now in
    let mid = view g.H.Shelf.held g.H.Shelf.open_faults g.H.Shelf.read_faults g.H.Shelf.write_faults c.open_written.new.shelf in
    let new = view g.H.Shelf.held g.H.Shelf.open_faults g.H.Shelf.read_faults g.H.Shelf.write_faults c.audit_opened.new.shelf in
    audits_on old mid new (files_of c.args.files.now) (outcome_of c.audit_opened.result) c.requires.files c.open_written.ensures.fell c.open_written.ensures.held c.audit_opened.ensures

-- something couldn't be opened
pub returns : goal.returns
returns g c =
    let old = view g.H.Shelf.held g.H.Shelf.open_faults g.H.Shelf.read_faults g.H.Shelf.write_faults c.args.shelf.now in
    let new = view g.H.Shelf.held g.H.Shelf.open_faults g.H.Shelf.read_faults g.H.Shelf.write_faults c.open_written.new.shelf in
    let names = files_of c.args.files.now in
    let outcome = outcome_of c.in-Err.ending in
    audit_stops old new names outcome c.open_written.ensures.fell c.open_written.ensures.held c.in-Err.ensures.cause (λ tells.
    unopened old names outcome (subst (λ pairs. AreUnopened pairs outcome) (same_pairs c.pairs.result.now names.rounds c.pairs.ensures) c.in-Err.ensures.which))
