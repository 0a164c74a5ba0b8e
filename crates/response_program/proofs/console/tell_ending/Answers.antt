use Rattle.std.proofs.Common.{◌≡◌, ◌∙◌, ap, subst}
use Rattle.std.specs.Prelude.{OnOk}
use Rattle.plan_schema.specs.Outside.{extended}
use Rattle.response_program.specs.Names.{console}
use Rattle.response_program.specs.Outcomes.{outcome_of, status_of, console_line}
use Rattle.response_program.specs.Views.{view}
use Rattle.response_program.proofs.Chains.{gave_out, counted_rose}
use Rattle.response_program.proofs.console.tell_ending.Goals as goal

pub returns : goal.returns
returns g c =
    let old = view g.H.Shelf.held g.H.Shelf.open_faults g.H.Shelf.read_faults g.H.Shelf.write_faults c.args.shelf.now in
    let new = view g.H.Shelf.held g.H.Shelf.open_faults g.H.Shelf.read_faults g.H.Shelf.write_faults c.give_out.new.self in
    let outcome = outcome_of c.args.ending in
    record {
      written = c.tell-told.result;
      status_is = c.status.ensures.value ∙ ap status_of c.and_written.ensures;
      none_fell = gave_out old new console (g.H.Out.Sink.faults c.tell-told.new.console) c.give_out.ensures.count c.give_out.ensures.opens c.give_out.ensures.reads;
      others = c.give_out.ensures.others;
      failed = λ is.
          counted_rose console old.writes new.writes (g.H.Out.Sink.faults c.args.console) (g.H.Out.Sink.faults c.tell-told.new.console) c.requires.fresh (c.tell-told.ensures.cause.failed is) c.give_out.ensures.count;
      text = λ is.
          c.give_out.ensures.here ∙ subst (λ r. OnOk r (g.H.Out.Sink.taken c.tell-told.new.console ≡ extended (g.H.Out.Sink.taken c.args.console) (console_line outcome))) is c.tell-told.ensures.ok;
    }
