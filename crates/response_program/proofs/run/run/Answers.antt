use Rattle.std.proofs.Common.{◌∙◌, Err, sym, ap, subst}
use Rattle.response_program.specs.Views.{view}
use Rattle.response_program.specs.Outcomes.{outcome_of}
use Rattle.response_program.specs.Names.{files_of}
use Rattle.response_program.proofs.Chains.{opened, gave_in, both_fell, read_rose, rose_past}
use Rattle.response_program.specs.Runs.{HasRun}
use Rattle.response_program.proofs.Unmade.{unread}
use Rattle.response_program.proofs.Bases.{by_book}
use Rattle.response_program.proofs.run.run.Goals as goal

pub returns-in-Ok-imported : goal.returns-in-Ok-imported
returns-in-Ok-imported g c =
    let old = view g.H.Shelf.held g.H.Shelf.open_faults g.H.Shelf.read_faults g.H.Shelf.write_faults c.args.shelf.now in
    let mid = view g.H.Shelf.held g.H.Shelf.open_faults g.H.Shelf.read_faults g.H.Shelf.write_faults c.open_in.new.self in
    let late = view g.H.Shelf.held g.H.Shelf.open_faults g.H.Shelf.read_faults g.H.Shelf.write_faults c.give_in.new.self in
    let new = view g.H.Shelf.held g.H.Shelf.open_faults g.H.Shelf.read_faults g.H.Shelf.write_faults c.run_book.new.shelf in
    let names = files_of c.args.names.now in
    let contents = c.in-Ok-imported.contents in
    let opening = opened old mid names.base c.open_in.result c.open_in.ensures.cause c.open_in.ensures.reads c.open_in.ensures.writes in
    let giving = gave_in mid late names.base (g.H.In.Source.faults c.import-imported.new.source) c.give_in.ensures.count c.give_in.ensures.opens c.give_in.ensures.writes in
    by_book old late new names c.requires.differ contents (outcome_of c.run_book.result) (both_fell old mid late opening giving)
    (λ name. c.give_in.ensures.holds name ∙ c.open_in.ensures.holds name)
    (λ base base_is. c.in-Ok-imported.ensures.ok base (c.in-Ok.ensures.left ∙ base_is)) c.run_book.ensures

-- the base wasn't read
pub returns-in-Err-imported : goal.returns-in-Err-imported
returns-in-Err-imported g c =
    let old = view g.H.Shelf.held g.H.Shelf.open_faults g.H.Shelf.read_faults g.H.Shelf.write_faults c.args.shelf.now in
    let mid = view g.H.Shelf.held g.H.Shelf.open_faults g.H.Shelf.read_faults g.H.Shelf.write_faults c.open_in.new.self in
    let late = view g.H.Shelf.held g.H.Shelf.open_faults g.H.Shelf.read_faults g.H.Shelf.write_faults c.give_in.new.self in
    let names = files_of c.args.names.now in
    let fault = c.in-Err-imported.fault in
    let opening = opened old mid names.base c.open_in.result c.open_in.ensures.cause c.open_in.ensures.reads c.open_in.ensures.writes in
    let giving = gave_in mid late names.base (g.H.In.Source.faults c.import-imported.new.source) c.give_in.ensures.count c.give_in.ensures.opens c.give_in.ensures.writes in
    subst (HasRun old late names) (sym c.of_import.ensures)
    (unread old late names fault (both_fell old mid late opening giving) (λ name. c.give_in.ensures.holds name ∙ c.open_in.ensures.holds name)
    (λ is. rose_past names.base old.reads mid.reads late.reads c.open_in.ensures.reads
    (read_rose g.H.In.Source.faults c.in-Ok.source c.import-imported.new.source names.base mid.reads late.reads c.in-Ok.ensures.fresh (c.import-imported.ensures.failed (c.in-Err-imported.is ∙ ap Err is)) c.give_in.ensures.count))
    (λ base base_is. c.in-Err-imported.ensures.err base (c.in-Ok.ensures.left ∙ base_is)))
