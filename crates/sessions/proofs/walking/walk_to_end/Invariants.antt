use Rattle.std.proofs.Common.{◌≡◌}
use Rattle.plan_walk.specs.Walk.{IsOpen, EndsSettled, left, round_of}
use Rattle.sessions.specs.Sights.{StandsAt, Looks}
use Rattle.sessions.proofs.walking.walk_to_end.Given as goal

abbrev pub invariant-rounds : goal.invariant-rounds
invariant-rounds g l = record {
  ready : g.T.Reach.ready l.fn.reach l.state;
  looks : Looks (g.T.Reach.sight l.fn.reach l.fn.state) (g.T.Reach.sight l.fn.reach l.state);
  stands : StandsAt (g.T.Reach.sight l.fn.reach l.state) l.walk.job.cells;
  goes_on : IsOpen l.walk;
  ends : EndsSettled l.walk l.round;
  done : l.round ≡ round_of l.walk.front;
  job : l.walk.job ≡ l.fn.walk.job;
}

abbrev pub decreases-rounds : goal.decreases-rounds
decreases-rounds g l = left l.walk.parts
