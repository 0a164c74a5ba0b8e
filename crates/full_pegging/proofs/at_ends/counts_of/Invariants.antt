use Rattle.std.proofs.Common.{◌≡◌, take}
use Rattle.planning_rules.specs.Trace.{End}
use Rattle.full_pegging.specs.Shares.{landed_at, counted_at}
use Rattle.full_pegging.proofs.at_ends.counts_of.Given as goal

abbrev pub invariant-loop-share : goal.invariant-loop-share
invariant-loop-share l = (end : End) → counted_at l.counts.by_key.entries end ≡ landed_at (take l.share-index l.landed) end
