use Rattle.std.proofs.Common.{◌∙◌, sym, subst}
use Rattle.request_loop.specs.Serving as loop
use Rattle.sessions.specs.InTurns.{IsReady, sight_of}
use Rattle.sessions.proofs.FromChain.{gives}
use Rattle.sessions.proofs.Ended.{stops}
use Rattle.sessions.proofs.TurnSession.{failed, worn, pass_ended, serves_in_turns}
use Rattle.sessions.proofs.serving.serve.Goals as goal

pub returns : goal.returns
returns g c =
    let p = c.args.pass.now in
    let q = c.serve_requests.new.state in
    let before = g.K.Sink.taken c.args.sink.now in
    let after = g.K.Sink.taken c.serve_requests.new.sink in
    let served = c.serve_requests.result in
    let h = c.serve_requests.ensures.served in
    let ready : IsReady c.args.office.now q = subst (λ at. IsReady at.office.now q) c.new-session.ensures c.serve_requests.ensures.ready in
    record {
      ready = ready;
      cause = c.serve_requests.ensures.cause;
      pass = pass_ended p q h.input before after served (c.requires.free.1 ∙ sym ready.free.1) h.serves.short;
      served = λ began input basis told.
          serves_in_turns p q input before after served began basis
          (subst (λ i. loop.Serves (gives sight_of) (stops sight_of failed worn) p q i before after served) (sym (h.told input told)) h.serves);
    }
