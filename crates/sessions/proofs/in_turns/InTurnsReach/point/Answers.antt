use Rattle.plan_office.specs.Calls.{TellsPoint}
use Rattle.sessions.proofs.TurnCalls.{call_ready, call_looks, points_same, turn_point, point_worn}
use Rattle.sessions.proofs.in_turns.InTurnsReach.point.Goals as goal

pub returns : goal.returns
returns g c =
    let story = g.B.Storied.story in
    let faults = g.B.Storied.faults in
    let basis = g.B.Storied.basis in
    let work = g.B.PlanBook.work in
    let p = c.args.pass.now in
    let q = c.point.new.pass in
    let came = TellsPoint story faults basis work in
    let result = c.point.result in
    let call = c.point.ensures.call in
    record {
      ready = call_ready story faults basis work p q came c.args.self.now.office.now result c.requires c.point.ensures.free call;
      looks = call_looks story faults basis work p q came (points_same story faults basis work p q) result call;
      ok = turn_point story faults basis work p q result call;
      err = point_worn story faults basis work p q result call;
    }
