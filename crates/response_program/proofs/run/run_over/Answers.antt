use Rattle.std.proofs.Common.{◌≡◌, ◌∙◌, [], Err, refl, sym, ap, subst}
use Rattle.std.specs.Prelude.{OnOk, option_map}
use Rattle.plan_schema.specs.declared.outside.SinkFault.TheVariants as sinks
use Rattle.plan_schema.specs.Outside.{extended}
use Rattle.plan_schema.proofs.Writes.{rose_after}
use Rattle.plan_journal.specs.Entries.{journal_text}
use Rattle.scenario_rules.specs.Journal.{IsLegal}
use Rattle.response_program.specs.Views.{view}
use Rattle.response_program.specs.Names.{files_of}
use Rattle.response_program.specs.Outcomes.{outcome_of, and_written}
use Rattle.response_program.specs.Runs.{HasRunOver}
use Rattle.response_program.proofs.Chains.{opened, gave_out, both_fell, counted_rose}
use Rattle.response_program.proofs.Unmade.{unmade}
use Rattle.response_program.proofs.Books.{own_legal}
use Rattle.response_program.proofs.Overs.{desk_facts, none_facts, over_desks, over_none}
use Rattle.response_program.proofs.run.run_over.Goals as goal

-- the sessions couldn't begin
pub returns-in-Err-serve_sessions : goal.returns-in-Err-serve_sessions
returns-in-Err-serve_sessions g c =
    let old = view g.H.Shelf.held g.H.Shelf.open_faults g.H.Shelf.read_faults g.H.Shelf.write_faults c.args.shelf.now in
    let mid = view g.H.Shelf.held g.H.Shelf.open_faults g.H.Shelf.read_faults g.H.Shelf.write_faults c.make_out.new.self in
    let late = view g.H.Shelf.held g.H.Shelf.open_faults g.H.Shelf.read_faults g.H.Shelf.write_faults c.serve_sessions.new.shelf in
    let new = view g.H.Shelf.held g.H.Shelf.open_faults g.H.Shelf.read_faults g.H.Shelf.write_faults c.give_out.new.self in
    let names = files_of c.args.names.now in
    let contents = c.args.book.base in
    let outcome = outcome_of c.in-Err-serve_sessions.ending in
    let making = opened old mid names.journal c.make_out.result c.make_out.ensures.cause c.make_out.ensures.reads c.make_out.ensures.writes in
    let giving = gave_out late new names.journal (g.H.Out.Sink.faults c.in-Ok.journal) c.give_out.ensures.count c.give_out.ensures.opens c.give_out.ensures.reads in
    let facts = none_facts mid late names outcome c.in-Err-serve_sessions.ensures.err in (
      [],
      over_none old mid late new names contents [] c.requires.differ c.make_out.ensures.others c.make_out.ensures.here c.give_out.ensures.others making giving outcome facts
          (λ tells. c.give_out.ensures.here ∙ c.in-Ok.ensures.empty (tells names.journal)),
    )

pub returns-in-Ok-serve_sessions : goal.returns-in-Ok-serve_sessions
returns-in-Ok-serve_sessions g c =
    let old = view g.H.Shelf.held g.H.Shelf.open_faults g.H.Shelf.read_faults g.H.Shelf.write_faults c.args.shelf.now in
    let mid = view g.H.Shelf.held g.H.Shelf.open_faults g.H.Shelf.read_faults g.H.Shelf.write_faults c.make_out.new.self in
    let late = view g.H.Shelf.held g.H.Shelf.open_faults g.H.Shelf.read_faults g.H.Shelf.write_faults c.serve_sessions.new.shelf in
    let new = view g.H.Shelf.held g.H.Shelf.open_faults g.H.Shelf.read_faults g.H.Shelf.write_faults c.give_out-in-Ok-serve_sessions.new.self in
    let names = files_of c.args.names.now in
    let contents = c.args.book.base in
    let ran = c.in-Ok-serve_sessions.ran in
    let book = ran.book in
    let stop = option_map outcome_of ran.stop in
    let totals = c.totals_of-totals.result in
    let written = c.write_journal-written.result in
    let making = opened old mid names.journal c.make_out.result c.make_out.ensures.cause c.make_out.ensures.reads c.make_out.ensures.writes in
    let giving = gave_out late new names.journal (g.H.Out.Sink.faults c.write_journal-written.new.sink) c.give_out-in-Ok-serve_sessions.ensures.count c.give_out-in-Ok-serve_sessions.ensures.opens c.give_out-in-Ok-serve_sessions.ensures.reads in
    let facts = desk_facts mid late names contents book.entries stop c.requires.differ refl c.in-Ok-serve_sessions.ensures.ok in
    let before = both_fell old mid late making facts.none_fell in
    let failed = λ (is : written ≡ Err sinks.Failed). rose_after (old.writes names.journal) (late.writes names.journal) (new.writes names.journal) (before.writes names.journal)
    (counted_rose names.journal late.writes new.writes (g.H.Out.Sink.faults c.in-Ok.journal) (g.H.Out.Sink.faults c.write_journal-written.new.sink) c.in-Ok.ensures.fresh (c.write_journal-written.ensures.cause.failed is) c.give_out-in-Ok-serve_sessions.ensures.count) in
    let same : c.journal.result.now.entries ≡ book.entries = c.journal.ensures in
    let legal = subst (λ base. IsLegal base book.entries) c.in-Ok-serve_sessions.ensures.base (own_legal book c.in-Ok-serve_sessions.ensures.first c.holds.ensures.legal) in
    let over = over_desks old mid late new names contents book.entries c.requires.differ c.make_out.ensures.others c.make_out.ensures.here c.give_out-in-Ok-serve_sessions.ensures.others making giving stop totals written facts c.totals_of-totals.ensures legal failed
    (λ is tells.
    c.give_out-in-Ok-serve_sessions.ensures.here ∙ subst (λ r. OnOk r (g.H.Out.Sink.taken c.write_journal-written.new.sink ≡ extended (g.H.Out.Sink.taken c.in-Ok.journal) (journal_text c.journal.result.now.entries))) is c.write_journal-written.ensures.ok
    ∙ ap (λ es. extended (g.H.Out.Sink.taken c.in-Ok.journal) (journal_text es)) same
    ∙ ap (λ taken. extended taken (journal_text book.entries)) (c.in-Ok.ensures.empty (tells names.journal))) in (
      book.entries,
      subst (HasRunOver old new names contents book.entries) (sym (c.and_written.ensures ∙ ap (λ o. and_written o names.journal written) c.of_sessions.ensures)) over,
    )

-- the journal couldn't be made
pub returns-in-Err : goal.returns-in-Err
returns-in-Err g c =
    let old = view g.H.Shelf.held g.H.Shelf.open_faults g.H.Shelf.read_faults g.H.Shelf.write_faults c.args.shelf.now in
    let new = view g.H.Shelf.held g.H.Shelf.open_faults g.H.Shelf.read_faults g.H.Shelf.write_faults c.make_out.new.self in
    let names = files_of c.args.names.now in (
      [],
      subst (HasRunOver old new names c.args.book.base []) (sym c.of_open.ensures)
          (unmade old new names c.args.book.base [] c.in-Err.fault c.make_out.result c.in-Err.is c.make_out.ensures.cause c.make_out.ensures.here c.make_out.ensures.others c.make_out.ensures.reads c.make_out.ensures.writes),
    )
