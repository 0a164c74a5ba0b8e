use Rattle.std.proofs.Common.{sym, subst}
use Rattle.turn_table.specs.Passes.{IsFree}
use Rattle.desk_rounds.specs.PassLists.{JoinedSoFar}
use Rattle.desk_rounds.proofs.Joins.{joined_more}
use Rattle.desk_rounds.proofs.passes.join_all.Goals as goal

pub joins-preserved : goal.joins-preserved
joins-preserved g c =
    let e = c.join.ensures in
    let before = subst (λ left. JoinedSoFar c.args.office.now c.args.pass.now c.joins.pass c.args.others.items left) c.in-Some.ensures.items c.joins.invariant in
    joined_more c.args.office.now c.args.pass.now c.joins.pass c.join.new.pass c.in-Some.other c.args.others.items c.pop.new.self.items before e.pass
    (subst (IsFree c.args.office.now) (sym e.pass) before.joined.free) e.seen.0 e.seen.1
