use Rattle.request_loop.proofs.Legal.{chains_are_pinned}
use Rattle.request_loop.proofs.laws.chains_are_pinned.Goals as goal

pub returns : goal.returns
returns g c known own may_change base session = chains_are_pinned (g.A.Answers.gives c.args._answers.now) (g.A.Answers.ready c.args._answers.now) known own may_change base session
