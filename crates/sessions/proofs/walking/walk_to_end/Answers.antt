use Rattle.plan_walk.proofs.Rounds.{rounds_end}
use Rattle.sessions.proofs.walking.walk_to_end.Goals as goal

pub rounds-smaller : goal.rounds-smaller
rounds-smaller g c =
    let round = c.in_ok-round-2.ensures.ok in
    let before = c.rounds.invariant in
    rounds_end c.rounds.walk c.round-in-More.new.walk _ _ _ c.in_ok-solved.solved c.in_ok-round-2.round round.round_is.work round.round_is.settles c.in_ok-solved.ensures.names before.goes_on (before.ends.more c.in-More.is)
