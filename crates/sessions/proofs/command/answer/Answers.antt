use Rattle.sessions.proofs.Exact.{reclaim_exact_on, tree_exact_on}
use Rattle.sessions.proofs.command.answer.Goals as goal

pub returns-in_ok-reclaim-in-Reclaim-clause-exact : goal.returns-in_ok-reclaim-in-Reclaim-clause-exact
returns-in_ok-reclaim-in-Reclaim-clause-exact g c =
    let sight = g.T.Reach.sight c.args.reach.now in
    let h = c.in_ok-reclaim-in-Reclaim in
    reclaim_exact_on (sight c.args.state.now) (sight c.reclaim.new.state) c.args.user.now h.ensures.looks c.args.command.now h.field-0 c.in-Reclaim.is h.ensures.ok

pub returns-in_ok-point-in-Tree-clause-exact : goal.returns-in_ok-point-in-Tree-clause-exact
returns-in_ok-point-in-Tree-clause-exact g c =
    let sight = g.T.Reach.sight c.args.reach.now in
    let h = c.in_ok-point-in-Tree in
    tree_exact_on (sight c.args.state.now) (sight c.tree.new.state) c.args.user.now h.ensures.looks c.args.command.now h.point h.lines c.in-Tree.is h.ensures.ok
