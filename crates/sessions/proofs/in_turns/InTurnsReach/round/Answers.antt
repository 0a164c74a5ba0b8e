use Rattle.plan_office.specs.Calls.{MakesRound}
use Rattle.sessions.proofs.TurnCalls.{call_ready, call_looks, call_worn, round_same, turn_round, stands_for, stands_at}
use Rattle.sessions.proofs.in_turns.InTurnsReach.round.Goals as goal

pub returns-clause-ready : goal.returns-clause-ready
returns-clause-ready g c =
    let story = g.B.Storied.story in
    let faults = g.B.Storied.faults in
    let basis = g.B.Storied.basis in
    let work = g.B.PlanBook.work in
    let p = c.args.pass.now in
    let q = c.round.new.pass in
    let came = MakesRound story faults basis work c.args.walk.now c.round.new.walk c.args.solved in
    call_ready story faults basis work p q came c.args.self.now.office.now c.round.result c.requires.ready c.round.ensures.free c.round.ensures.call

pub returns-clause-looks : goal.returns-clause-looks
returns-clause-looks g c =
    let story = g.B.Storied.story in
    let faults = g.B.Storied.faults in
    let basis = g.B.Storied.basis in
    let work = g.B.PlanBook.work in
    let p = c.args.pass.now in
    let q = c.round.new.pass in
    let came = MakesRound story faults basis work c.args.walk.now c.round.new.walk c.args.solved in
    call_looks story faults basis work p q came (round_same story faults basis work p q c.args.walk.now c.round.new.walk c.args.solved) c.round.result c.round.ensures.call

pub returns-clause-ok : goal.returns-clause-ok
returns-clause-ok g c =
    let story = g.B.Storied.story in
    let faults = g.B.Storied.faults in
    let basis = g.B.Storied.basis in
    let work = g.B.PlanBook.work in
    let p = c.args.pass.now in
    let q = c.round.new.pass in
    let came = MakesRound story faults basis work c.args.walk.now c.round.new.walk c.args.solved in
    turn_round story faults basis work p q c.args.walk.now c.round.new.walk c.args.solved c.round.result c.round.ensures.call

pub returns-clause-stands : goal.returns-clause-stands
returns-clause-stands g c =
    let story = g.B.Storied.story in
    let faults = g.B.Storied.faults in
    let basis = g.B.Storied.basis in
    let work = g.B.PlanBook.work in
    let p = c.args.pass.now in
    let q = c.round.new.pass in
    let came = MakesRound story faults basis work c.args.walk.now c.round.new.walk c.args.solved in
    stands_at c.args.self.now.office.now q c.round.new.walk.job.cells (call_ready story faults basis work p q came c.args.self.now.office.now c.round.result c.requires.ready c.round.ensures.free c.round.ensures.call) c.round.ensures.stands

pub returns-clause-worn : goal.returns-clause-worn
returns-clause-worn g c =
    let story = g.B.Storied.story in
    let faults = g.B.Storied.faults in
    let basis = g.B.Storied.basis in
    let work = g.B.PlanBook.work in
    let p = c.args.pass.now in
    let q = c.round.new.pass in
    let came = MakesRound story faults basis work c.args.walk.now c.round.new.walk c.args.solved in
    call_worn story faults basis work p q came c.round.result c.round.ensures.call

pub round-requires-clause-stands : goal.round-requires-clause-stands
round-requires-clause-stands g c = stands_for c.args.pass.now c.args.walk.now.job.cells c.requires.stands
