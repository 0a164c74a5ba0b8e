use Rattle.std.proofs.Common.{ap}
use Rattle.std.specs.Prelude.{option_map}
use Rattle.command_words.specs.declared.reply.Bad.TheVariants as bads
use Rattle.request_loop.proofs.NoReply.{told, long_line}
use Rattle.request_loop.proofs.hear.hear_request.Goals as goal

pub returns-in-None-clause-heard : goal.returns-in-None-clause-heard
returns-in-None-clause-heard g c some =
    told (g.A.Answers.gives c.args.answers.now) (g.A.Answers.stops c.args.answers.now) g.K.Sink.taken c.args.state.now c.fault_handed_on.new.state c.args.user.now c.args.page.now.items c.fault_handed_on.new.page.items c.args.sink.now c.fault_handed_on.new.sink
    c.args.rows.now c.args.number (option_map (λ text. text.now) c.args.line) bads.Long c.fault_handed_on.result c.answered.result c.answered.ensures
    (long_line c.args.number (option_map (λ text. text.now) c.args.line) (ap (option_map (λ text. text.now)) c.in-None.is)) some c.requires.none c.fault_handed_on.ensures.taken
