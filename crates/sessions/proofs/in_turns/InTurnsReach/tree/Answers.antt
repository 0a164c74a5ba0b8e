use Rattle.plan_office.specs.Calls.{TellsTree}
use Rattle.sessions.proofs.TurnCalls.{call_ready, call_looks, call_worn, tree_same, turn_tree}
use Rattle.sessions.proofs.in_turns.InTurnsReach.tree.Goals as goal

pub returns : goal.returns
returns g c =
    let story = g.B.Storied.story in
    let faults = g.B.Storied.faults in
    let basis = g.B.Storied.basis in
    let work = g.B.PlanBook.work in
    let p = c.args.pass.now in
    let q = c.tree.new.pass in
    let came = TellsTree story faults basis work c.args.user.now in
    let result = c.tree.result in
    let call = c.tree.ensures.call in
    record {
      ready = call_ready story faults basis work p q came c.args.self.now.office.now result c.requires c.tree.ensures.free call;
      looks = call_looks story faults basis work p q came (tree_same story faults basis work p q c.args.user.now) result call;
      ok = turn_tree story faults basis work p q c.args.user.now result call;
      worn = call_worn story faults basis work p q came result call;
    }
