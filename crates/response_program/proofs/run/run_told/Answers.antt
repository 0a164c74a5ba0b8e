use Rattle.std.proofs.Common.{◌≡◌, ◌∙◌, Err, Some, refl, sym, ap, inl}
use Rattle.plan_schema.specs.Outside.{extended}
use Rattle.plan_schema.specs.declared.outside.SinkFault.TheVariants as sinks
use Rattle.plan_schema.proofs.Writes.{rose_after, rose_later}
use Rattle.response_program.specs.Views.{view}
use Rattle.response_program.specs.Outcomes.{outcome_of, and_written, console_line}
use Rattle.response_program.specs.Names.{files_of, console}
use Rattle.response_program.proofs.Chains.{opened, both_fell, cause_later, cause_after}
use Rattle.response_program.proofs.Named.{kept_then}
use Rattle.response_program.proofs.Endings.{written_done, written_long, written_refused, written_of_base, written_opened, written_cause, written_told, written_cut}
use Rattle.response_program.proofs.Headline.{all_done_over, short_over, too_long_over, made_tells}
use Rattle.response_program.proofs.run.run_told.Goals as goal

pub returns : goal.returns
returns g c =
    let old = view g.H.Shelf.held g.H.Shelf.open_faults g.H.Shelf.read_faults g.H.Shelf.write_faults c.args.shelf.now in
    let mid = view g.H.Shelf.held g.H.Shelf.open_faults g.H.Shelf.read_faults g.H.Shelf.write_faults c.make_out.new.self in
    let late = view g.H.Shelf.held g.H.Shelf.open_faults g.H.Shelf.read_faults g.H.Shelf.write_faults c.run-ending.new.shelf in
    let new = view g.H.Shelf.held g.H.Shelf.open_faults g.H.Shelf.read_faults g.H.Shelf.write_faults c.tell_ending.new.shelf in
    let names = files_of c.args.names.now in
    let outcome = outcome_of c.run-ending.result in
    let telling = c.tell_ending.ensures in
    let written = telling.written in
    let giving = telling.none_fell in
    let making = opened old mid console c.make_out.result c.make_out.ensures.cause c.make_out.ensures.reads c.make_out.ensures.writes in
    let before = both_fell old mid late making c.run-ending.ensures.none_fell in
    let failed = λ (is : written ≡ Err sinks.Failed). rose_after (old.writes console) (late.writes console) (new.writes console) (before.writes console) (telling.failed is) in
    let apart = c.requires.differ in
    let tells_mid = made_tells console old mid in
    record {
      outcome = and_written outcome console written;
      status_is = telling.status_is;
      none_fell = both_fell old late new before giving;
      cause = written_cause old new outcome console written (cause_later old late new outcome giving (cause_after old mid late outcome making c.run-ending.ensures.cause)) failed;
      others = λ name journal output other. telling.others name other ∙ c.run-ending.ensures.others name journal output ∙ c.make_out.ensures.others name other;
      refused = λ fault is base base_is. c.run-ending.ensures.refused fault (written_refused outcome console written fault is) base (c.make_out.ensures.others names.base apart.base_console ∙ base_is);
      kept = λ is name other. telling.others name other ∙ c.run-ending.ensures.kept (written_of_base names outcome console written is) name ∙ c.make_out.ensures.others name other;
      opened = λ failed is tells name other.
          kept_then (inl (c.make_out.ensures.others name other))
          (kept_then (c.run-ending.ensures.opened failed (written_opened outcome console written failed is) (tells_mid tells c.make_out.ensures.here c.make_out.ensures.others) name) (inl (telling.others name other)));
      done = λ totals is tells.
          all_done_over console old mid late new c.make_out.ensures.others telling.others making giving names apart.no_console apart.journal_console apart.base_console totals
          (c.run-ending.ensures.done totals (written_done outcome console written totals is).0 (tells_mid tells c.make_out.ensures.here c.make_out.ensures.others));
      limit = λ session is tells.
          too_long_over console old mid late new c.make_out.ensures.others telling.others making giving names apart.no_console apart.journal_console apart.base_console session
          (c.run-ending.ensures.limit session (written_long outcome console written session is) (tells_mid tells c.make_out.ensures.here c.make_out.ensures.others));
      cut = λ cut tells never.
          short_over console old mid late new c.make_out.ensures.others telling.others making giving names apart.no_console apart.journal_console apart.base_console
          (c.run-ending.ensures.cut (written_cut names outcome console written (λ journal other. other refl) cut) (tells_mid tells c.make_out.ensures.here c.make_out.ensures.others)
          (λ rose. never (rose_later _ _ _ (rose_after _ _ _ (making.writes names.journal) rose) (giving.writes names.journal))));
      told = λ never tells opens writes.
          let both = written_told outcome console written never (λ is. writes (failed is)) in
          telling.text both.0
          ∙ ap (λ taken. extended taken (console_line outcome)) (c.in-Ok.ensures.empty (tells console)) ∙ ap (λ o. Some (console_line o)) (sym both.1);
    }
