use Rattle.std.proofs.Common.{◌∷◌, ◌++◌, []}
use Rattle.response_program.proofs.Chains.{behind}
use Rattle.response_program.proofs.ending.tell_of.Goals as goal

pub returns : goal.returns
returns g c =
    behind g.K.Sink.taken g.K.Sink.faults g.K.Sink.label _ _ _ c.args.word.now (c.args.name.now ++ 10 ∷ []) _ _ _ c.in_ok-write_all.was c.write_all.ensures c.tell_name.ensures
