use Rattle.sessions.proofs.Entered.{rowless}
use Rattle.sessions.proofs.Seen.{looks_same}
use Rattle.sessions.proofs.answering.SessionAnswers.wanting.Goals as goal

pub returns-clause-ok : goal.returns-clause-ok
returns-clause-ok g c change load =
    let here = g.T.Reach.sight c.args.self.now.reach c.args._state.now in
    rowless here here c.args._user.now c.args._line change load (looks_same here)
