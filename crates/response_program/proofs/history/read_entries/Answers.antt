use Rattle.std.proofs.Common.{◌∙◌, Err, sym, ap, subst}
use Rattle.response_program.specs.Views.{view}
use Rattle.response_program.specs.Outcomes.{HasCause}
use Rattle.response_program.specs.Histories.{IsJournalUnread}
use Rattle.response_program.proofs.Chains.{opened, gave_in, both_fell, read_rose, rose_past}
use Rattle.response_program.proofs.Histories.{open_cause, journal_unopened, journal_cause, journal_why}
use Rattle.response_program.proofs.history.read_entries.Goals as goal

-- it couldn't be opened
pub returns-in-Err-clause-held : goal.returns-in-Err-clause-held
returns-in-Err-clause-held g c = c.open_in.ensures.holds

pub returns-in-Err-clause-fell : goal.returns-in-Err-clause-fell
returns-in-Err-clause-fell g c =
    let old = view g.H.Shelf.held g.H.Shelf.open_faults g.H.Shelf.read_faults g.H.Shelf.write_faults c.args.shelf.now in
    let new = view g.H.Shelf.held g.H.Shelf.open_faults g.H.Shelf.read_faults g.H.Shelf.write_faults c.open_in.new.self in
    let name = c.args.name.now in
    opened old new name c.open_in.result c.open_in.ensures.cause c.open_in.ensures.reads c.open_in.ensures.writes

pub returns-in-Err-clause-cause : goal.returns-in-Err-clause-cause
returns-in-Err-clause-cause g c =
    let old = view g.H.Shelf.held g.H.Shelf.open_faults g.H.Shelf.read_faults g.H.Shelf.write_faults c.args.shelf.now in
    let new = view g.H.Shelf.held g.H.Shelf.open_faults g.H.Shelf.read_faults g.H.Shelf.write_faults c.open_in.new.self in
    let name = c.args.name.now in
    subst (HasCause old new) (sym c.of_open.ensures) (open_cause old new name c.in-Err.fault (λ is. c.open_in.ensures.cause.failed (c.in-Err.is ∙ ap Err is)))

pub returns-in-Err-clause-why : goal.returns-in-Err-clause-why
returns-in-Err-clause-why g c =
    let old = view g.H.Shelf.held g.H.Shelf.open_faults g.H.Shelf.read_faults g.H.Shelf.write_faults c.args.shelf.now in
    let name = c.args.name.now in
    subst (IsJournalUnread old name) (sym c.of_open.ensures) (journal_unopened old name c.in-Err.fault)

-- it was read
pub returns-in-Ok-read-clause-held : goal.returns-in-Ok-read-clause-held
returns-in-Ok-read-clause-held g c =
    λ name. c.give_in.ensures.holds name ∙ c.open_in.ensures.holds name

pub returns-in-Ok-read-clause-fell : goal.returns-in-Ok-read-clause-fell
returns-in-Ok-read-clause-fell g c =
    let old = view g.H.Shelf.held g.H.Shelf.open_faults g.H.Shelf.read_faults g.H.Shelf.write_faults c.args.shelf.now in
    let mid = view g.H.Shelf.held g.H.Shelf.open_faults g.H.Shelf.read_faults g.H.Shelf.write_faults c.open_in.new.self in
    let new = view g.H.Shelf.held g.H.Shelf.open_faults g.H.Shelf.read_faults g.H.Shelf.write_faults c.give_in.new.self in
    let name = c.args.name.now in
    both_fell old mid new (opened old mid name c.open_in.result c.open_in.ensures.cause c.open_in.ensures.reads c.open_in.ensures.writes)
    (gave_in mid new name (g.H.In.Source.faults c.read_journal-read.new.source) c.give_in.ensures.count c.give_in.ensures.opens c.give_in.ensures.writes)

pub returns-in-Ok-read-clause-reads : goal.returns-in-Ok-read-clause-reads
returns-in-Ok-read-clause-reads g c =
    λ text is. c.in-Ok-read.ensures.ok text (c.in-Ok.ensures.left ∙ is)

-- it wasn't read
pub returns-in-Err-read-clause-held : goal.returns-in-Err-read-clause-held
returns-in-Err-read-clause-held g c =
    λ name. c.give_in.ensures.holds name ∙ c.open_in.ensures.holds name

pub returns-in-Err-read-clause-fell : goal.returns-in-Err-read-clause-fell
returns-in-Err-read-clause-fell g c =
    let old = view g.H.Shelf.held g.H.Shelf.open_faults g.H.Shelf.read_faults g.H.Shelf.write_faults c.args.shelf.now in
    let mid = view g.H.Shelf.held g.H.Shelf.open_faults g.H.Shelf.read_faults g.H.Shelf.write_faults c.open_in.new.self in
    let new = view g.H.Shelf.held g.H.Shelf.open_faults g.H.Shelf.read_faults g.H.Shelf.write_faults c.give_in.new.self in
    let name = c.args.name.now in
    both_fell old mid new (opened old mid name c.open_in.result c.open_in.ensures.cause c.open_in.ensures.reads c.open_in.ensures.writes)
    (gave_in mid new name (g.H.In.Source.faults c.read_journal-read.new.source) c.give_in.ensures.count c.give_in.ensures.opens c.give_in.ensures.writes)

pub returns-in-Err-read-clause-cause : goal.returns-in-Err-read-clause-cause
returns-in-Err-read-clause-cause g c =
    let old = view g.H.Shelf.held g.H.Shelf.open_faults g.H.Shelf.read_faults g.H.Shelf.write_faults c.args.shelf.now in
    let mid = view g.H.Shelf.held g.H.Shelf.open_faults g.H.Shelf.read_faults g.H.Shelf.write_faults c.open_in.new.self in
    let new = view g.H.Shelf.held g.H.Shelf.open_faults g.H.Shelf.read_faults g.H.Shelf.write_faults c.give_in.new.self in
    let name = c.args.name.now in
    subst (HasCause old new) (sym c.of_journal.ensures) (journal_cause old new name c.in-Err-read.fault
    (λ is. rose_past name old.reads mid.reads new.reads c.open_in.ensures.reads
    (read_rose g.H.In.Source.faults c.in-Ok.source c.read_journal-read.new.source name mid.reads new.reads c.in-Ok.ensures.fresh (c.read_journal-read.ensures.failed (c.in-Err-read.is ∙ ap Err is)) c.give_in.ensures.count)))

pub returns-in-Err-read-clause-why : goal.returns-in-Err-read-clause-why
returns-in-Err-read-clause-why g c =
    let old = view g.H.Shelf.held g.H.Shelf.open_faults g.H.Shelf.read_faults g.H.Shelf.write_faults c.args.shelf.now in
    let name = c.args.name.now in
    subst (IsJournalUnread old name) (sym c.of_journal.ensures) (journal_why old name c.in-Err-read.fault (λ text is. c.in-Err-read.ensures.err text (c.in-Ok.ensures.left ∙ is)))
