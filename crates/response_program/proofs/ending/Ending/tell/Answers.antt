use Rattle.std.proofs.Common.{◌∙◌, ap, sym, subst}
use Rattle.plan_schema.specs.Outside.{Wrote}
use Rattle.response_program.specs.Outcomes.{console_line, outcome_of}
use Rattle.response_program.proofs.Tellings.{open_line}
use Rattle.response_program.proofs.ending.Ending.tell.Goals as goal

pub returns-in-Done : goal.returns-in-Done
returns-in-Done g c =
    subst (λ text. Wrote g.K.Sink.taken g.K.Sink.faults g.K.Sink.label c.args.console.now c.write_all.new.sink text c.write_all.result)
    (c.as_slice.ensures.value ∙ c.done_line.ensures ∙ ap (λ e. console_line (outcome_of e)) (sym c.in-Done.is)) c.write_all.ensures

pub returns-in-Open : goal.returns-in-Open
returns-in-Open g c =
    subst (λ text. Wrote g.K.Sink.taken g.K.Sink.faults g.K.Sink.label c.args.console.now c.tell_of.new.console text c.tell_of.result) (open_line c.in-Open.name.now ∙ ap (λ e. console_line (outcome_of e)) (sym c.in-Open.is)) c.tell_of.ensures
