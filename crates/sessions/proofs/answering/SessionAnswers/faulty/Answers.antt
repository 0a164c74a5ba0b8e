use Rattle.std.proofs.Common.{refl}
use Rattle.session_rules.specs.Requests.{IsBad}
use Rattle.command_words.specs.declared.reply.Reply.TheVariants as replies
use Rattle.sessions.proofs.Entered.{unentered}
use Rattle.sessions.proofs.Seen.{looks_same}
use Rattle.sessions.proofs.answering.SessionAnswers.faulty.Goals as goal

pub returns-clause-ok : goal.returns-clause-ok
returns-clause-ok g c =
    let here = g.T.Reach.sight c.args.self.now.reach c.args._state.now in
    unentered here here c.args._user.now c.args._line (IsBad c.args.bad) (replies.Bad c.args.bad) (looks_same here) (λ floor last low few. refl) refl refl
