use Rattle.std.proofs.Common.{◌∷◌, [], subst}
use Rattle.plan_schema.specs.Outside.{Wrote}
use Rattle.response_program.proofs.Chains.{behind}
use Rattle.response_program.proofs.ending.tell_name.Goals as goal

pub returns : goal.returns
returns g c =
    behind g.K.Sink.taken g.K.Sink.faults g.K.Sink.label _ _ _ c.args.name.now (10 ∷ []) _ _ _ c.in_ok-write_all.was
    (subst (λ text. Wrote g.K.Sink.taken g.K.Sink.faults g.K.Sink.label c.args.console.now c.write_all.new.sink text c.write_all.result) c.as_bytes.ensures.value c.write_all.ensures) c.write_all-2.ensures
