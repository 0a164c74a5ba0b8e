use Rattle.plan_office.specs.Calls.{Changes}
use Rattle.plan_book.specs.Books.{entry_for}
use Rattle.sessions.proofs.TurnCalls.{call_ready, turn_made}
use Rattle.sessions.proofs.in_turns.InTurnsReach.change.Goals as goal

pub returns : goal.returns
returns g c =
    let story = g.B.Storied.story in
    let faults = g.B.Storied.faults in
    let basis = g.B.Storied.basis in
    let work = g.B.PlanBook.work in
    let p = c.args.pass.now in
    let q = c.change.new.pass in
    let came = Changes story faults basis work (entry_for p.number c.args.line c.args.user.now c.args.change) in
    let result = c.change.result in
    let call = c.change.ensures.call in
    record {
      ready = call_ready story faults basis work p q came c.args.self.now.office.now result c.requires.ready c.change.ensures.free call;
      made = turn_made story faults basis work p q (entry_for p.number c.args.line c.args.user.now c.args.change) result call;
    }
