use Rattle.plan_office.specs.Calls.{Asks}
use Rattle.sessions.proofs.TurnCalls.{call_ready, call_looks, call_worn, asks_same, turn_asked, turn_unasked}
use Rattle.sessions.proofs.in_turns.InTurnsReach.ask.Goals as goal

pub returns : goal.returns
returns g c =
    let story = g.B.Storied.story in
    let faults = g.B.Storied.faults in
    let basis = g.B.Storied.basis in
    let work = g.B.PlanBook.work in
    let p = c.args.pass.now in
    let q = c.ask.new.pass in
    let came = Asks story faults basis work c.args.user.now c.args.scenario.now c.args.wanted in
    let result = c.ask.result in
    let call = c.ask.ensures.call in
    record {
      ready = call_ready story faults basis work p q came c.args.self.now.office.now result c.requires c.ask.ensures.free call;
      looks = call_looks story faults basis work p q came (asks_same story faults basis work p q c.args.user.now c.args.scenario.now c.args.wanted) result call;
      ok = turn_asked story faults basis work p q c.args.user.now c.args.scenario.now c.args.wanted result call;
      err = turn_unasked story faults basis work p q c.args.user.now c.args.scenario.now c.args.wanted result call;
      worn = call_worn story faults basis work p q came result call;
    }
