use Rattle.plan_office.specs.Calls.{Reclaims}
use Rattle.sessions.proofs.TurnCalls.{call_ready, call_looks, call_worn, reclaims_same, turn_reclaim}
use Rattle.sessions.proofs.in_turns.InTurnsReach.reclaim.Goals as goal

pub returns : goal.returns
returns g c =
    let story = g.B.Storied.story in
    let faults = g.B.Storied.faults in
    let basis = g.B.Storied.basis in
    let work = g.B.PlanBook.work in
    let p = c.args.pass.now in
    let q = c.reclaim.new.pass in
    let came = Reclaims story faults basis work in
    let result = c.reclaim.result in
    let call = c.reclaim.ensures.call in
    record {
      ready = call_ready story faults basis work p q came c.args.self.now.office.now result c.requires c.reclaim.ensures.free call;
      looks = call_looks story faults basis work p q came (reclaims_same story faults basis work p q) result call;
      ok = turn_reclaim story faults basis work p q result call;
      worn = call_worn story faults basis work p q came result call;
    }
